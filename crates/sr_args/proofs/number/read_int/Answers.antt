use Rattle.std.proofs.Common.{rules, ◌≡◌, ◌-◌, length, get_or, take, drop, arith}
use Rattle.sr_ids.proofs.ReadingLemmas.{from_first_byte}
use Rattle.sr_args.proofs.NumberLemmas.{IsInt-from_positive, IsInt-from_negative, IsInt-none_negative, IsInt-none_positive, IsInt-no_digits}
use Rattle.sr_args.proofs.number.read_int.Goals as goal

pub returns-in_ok-read_decimal-in-45-clause-found : goal.returns-in_ok-read_decimal-in-45-clause-found
returns-in_ok-read_decimal-in-45-clause-found c =
    let word = c.args.word.now in
    let digits = take (length word - 1) (drop 1 word) in
    let begins : get_or word 0 0 ≡ 45 = search rules in
    let whole = from_first_byte word 45 (omega arith) begins in
    IsInt-from_negative word digits c.in_ok-read_decimal-in-45.field-0 c.checked_sub_unsigned.result whole c.in_ok-read_decimal-in-45.ensures.found c.checked_sub_unsigned.ensures

pub returns-in_ok-read_decimal-in_default-clause-found : goal.returns-in_ok-read_decimal-in_default-clause-found
returns-in_ok-read_decimal-in_default-clause-found c =
    rw c.ok.ensures.value (IsInt-from_positive c.args.word.now c.in_ok-read_decimal-in_default.field-0 c.try_from.result c.in_ok-read_decimal-in_default.ensures.found c.try_from.ensures)

pub returns-in_ok-read_decimal-in-45-clause-none : goal.returns-in_ok-read_decimal-in-45-clause-none
returns-in_ok-read_decimal-in-45-clause-none c =
    let word = c.args.word.now in
    let digits = take (length word - 1) (drop 1 word) in
    let begins : get_or word 0 0 ≡ 45 = search rules in
    IsInt-none_negative word digits c.in_ok-read_decimal-in-45.field-0 c.checked_sub_unsigned.result (from_first_byte word 45 (omega arith) begins) c.in_ok-read_decimal-in-45.ensures.found c.checked_sub_unsigned.ensures

pub returns-in_err-read_decimal-in-45-clause-none : goal.returns-in_err-read_decimal-in-45-clause-none
returns-in_err-read_decimal-in-45-clause-none c =
    let word = c.args.word.now in
    let digits = take (length word - 1) (drop 1 word) in
    let begins : get_or word 0 0 ≡ 45 = search rules in
    rw c.from_residual.ensures (IsInt-no_digits word digits (from_first_byte word 45 (omega arith) begins) c.in_err-read_decimal-in-45.ensures.none)

pub returns-in_ok-read_decimal-in_default-clause-none : goal.returns-in_ok-read_decimal-in_default-clause-none
returns-in_ok-read_decimal-in_default-clause-none c =
    rw c.ok.ensures.value (IsInt-none_positive c.args.word.now c.in_ok-read_decimal-in_default.field-0 c.try_from.result c.in_ok-read_decimal-in_default.ensures.found c.try_from.ensures)
