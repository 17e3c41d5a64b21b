use Rattle.std.proofs.Common.{◌+◌, ap, arith}
use Rattle.std.specs.Char.{digit_value}
use Rattle.std.proofs.lemmas.Int.Digits.{digits_value_more, digits_more}
use Rattle.std.proofs.lemmas.Grind.{common_steps}
use Rattle.sr_bytes.proofs.DecimalLemmas.{AllDigits-at, digits_value-take-le}
use Rattle.sr_bytes.proofs.decimal.read_decimal.Goals as goal

pub returns-in_err-value-clause-none : goal.returns-in_err-value-clause-none
returns-in_err-value-clause-none c = rw c.from_residual.ensures (λ n _ d.
    let digit = AllDigits-at c.args.digits.now c.loop-digit.digit-index d.each (omega arith) in
    c.in_err-value.ensures.value (rw c.from.ensures digit))

pub returns-in_err-checked_mul-clause-none : goal.returns-in_err-checked_mul-clause-none
returns-in_err-checked_mul-clause-none c = rw c.from_residual-in_err-checked_mul.ensures (λ n small d.
    let front = digits_value-take-le (c.loop-digit.digit-index + 1) c.args.digits.now in
    let more = digits_value_more 10 c.args.digits.now c.loop-digit.digit-index (omega arith) in
    c.in_err-checked_mul.ensures (omega (arith, front, more, d.value, small, c.loop-digit.invariant.value)))

pub returns-in_err-n-clause-none : goal.returns-in_err-n-clause-none
returns-in_err-n-clause-none c = rw c.from_residual-in_err-n.ensures (λ n small d.
    let front = digits_value-take-le (c.loop-digit.digit-index + 1) c.args.digits.now in
    let more = digits_value_more 10 c.args.digits.now c.loop-digit.digit-index (omega arith) in
    let digit = ap digit_value c.from.ensures in
    c.in_err-n.ensures (omega (arith, front, more, digit, d.value, small, c.loop-digit.invariant.value, c.in_ok-checked_mul.ensures, c.in_ok-value.ensures.value, c.from-in-loop-digit.ensures)))

pub loop-digit-preserved : goal.loop-digit-preserved
loop-digit-preserved c = record {
  each = digits_more 10 c.args.digits.now c.loop-digit.digit-index (omega arith) c.loop-digit.invariant.each (rw c.from.ensures at c.in_ok-value.ensures.value.0);
  value =
      let more = digits_value_more 10 c.args.digits.now c.loop-digit.digit-index (omega arith) in
      let digit = ap digit_value c.from.ensures in
      omega (arith, more, digit, c.loop-digit.invariant.value, c.in_ok-checked_mul.ensures, c.in_ok-value.ensures.value, c.from-in-loop-digit.ensures, c.in_ok-n.ensures);
}

pub returns-clause-found : goal.returns-clause-found
returns-clause-found c = grind (arith, common_steps)
