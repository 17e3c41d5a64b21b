use Rattle.std.proofs.Common.{◌≡◌, ◌++◌, length}
use Rattle.sr_live.specs.Said.{pairs_parts}
use Rattle.sr_live.proofs.said.pairs_said.Given as goal

abbrev pub invariant-loop : goal.invariant-loop
invariant-loop l = (length l.fields ≡ l.counter) × (l.initial.parts ≡ pairs_parts l.fields ++ l.parts)
