use Rattle.std.proofs.Common.{◌≡◌, ◌++◌, length}
use Rattle.std.specs.List.{flat_map}
use Rattle.sr_live.specs.Said.{number_parts}
use Rattle.sr_live.proofs.said.numbers_said.Given as goal

abbrev pub invariant-loop : goal.invariant-loop
invariant-loop l =
    (length l.numbers.items ≡ l.counter) × (l.initial.parts ≡ flat_map number_parts l.numbers.items ++ l.parts)
