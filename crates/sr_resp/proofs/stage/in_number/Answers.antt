use Rattle.std.proofs.Common.{◌≤◌, ◌∙◌, ap, arith, inl, inr}
use Rattle.std.specs.Char.{digit_value}
use Rattle.sr_resp.proofs.ReadingSteps.{step_digit, step_too_many, step_return, step_other, step_none}
use Rattle.sr_resp.proofs.stage.in_number.Goals as goal
use Rattle.sr_resp.proofs.stage.in_number.Goals.{else-digits-lt-MAX_DIGITS-via-then-digits-lt-MAX_DIGITS+else-value-most, else-digits-lt-MAX_DIGITS-via-else-digits-lt-MAX_DIGITS, else-byte-eq13-via-then-byte-eq13+else-digits-gt0, else-byte-eq13-via-else-byte-eq13}

pub returns-then-value-most : goal.returns-then-value-most
returns-then-value-most c =
    let is = c.in-Some.ensures.value.1 ∙ ap digit_value c.from.ensures in
    let digit = rw c.from.ensures at c.in-Some.ensures.value.0 in
    let small = rw is at c.if-value-most.true in
    rw is (small, λ more. step_digit c.args.most c.args.digits c.args.value c.args.byte more digit c.if-digits-lt-MAX_DIGITS.true small)

pub returns-else-digits-lt-MAX_DIGITS : goal.returns-else-digits-lt-MAX_DIGITS
returns-else-digits-lt-MAX_DIGITS c = λ more.
    let is = c.in-Some.ensures.value.1 ∙ ap digit_value c.from.ensures in
    let digit = rw c.from.ensures at c.in-Some.ensures.value.0 in
    let too_many = step_too_many c.args.most c.args.digits c.args.value c.args.byte more digit in
    elim c.else-digits-lt-MAX_DIGITS.branch [
      | else-digits-lt-MAX_DIGITS-via-then-digits-lt-MAX_DIGITS+else-value-most w ↦ too_many (inr (rw is at w.if-value-most.false))
      | else-digits-lt-MAX_DIGITS-via-else-digits-lt-MAX_DIGITS w ↦ too_many (inl w.if-digits-lt-MAX_DIGITS.false)
    ]

pub returns-then-digits-gt0 : goal.returns-then-digits-gt0
returns-then-digits-gt0 c = λ more.
    let other : 10 ≤ digit_value c.args.byte = rw (← c.from.ensures) (omega (arith, c.in-None.ensures.value)) in
    step_return c.args.most c.args.digits c.args.value c.args.byte more other c.if-byte-eq13.true c.if-digits-gt0.true

pub returns-else-byte-eq13 : goal.returns-else-byte-eq13
returns-else-byte-eq13 c = λ more.
    let other : 10 ≤ digit_value c.args.byte = rw (← c.from.ensures) (omega (arith, c.in-None.ensures.value)) in
    elim c.else-byte-eq13.branch [
      | else-byte-eq13-via-then-byte-eq13+else-digits-gt0 w ↦ step_none c.args.most c.args.digits c.args.value c.args.byte more other (omega (arith, w.if-digits-gt0.false))
      | else-byte-eq13-via-else-byte-eq13 w ↦ step_other c.args.most c.args.digits c.args.value c.args.byte more other w.if-byte-eq13.false
    ]
