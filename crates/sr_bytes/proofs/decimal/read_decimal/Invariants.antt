use Rattle.std.proofs.Common.{◌≡◌, take}
use Rattle.std.specs.Str.Parse.{AllDigits, digits_value}
use Rattle.sr_bytes.proofs.decimal.read_decimal.Given as goal

abbrev pub invariant-loop-digit : goal.invariant-loop-digit
invariant-loop-digit l = record {
  each : AllDigits 10 (take l.digit-index l.digits);
  value : l.n ≡ digits_value 10 (take l.digit-index l.digits);
}
