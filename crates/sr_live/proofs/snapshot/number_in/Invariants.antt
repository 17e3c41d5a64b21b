use Rattle.std.proofs.Common.{◌≡◌, drop}
use Rattle.sr_policy.specs.Rules.{value_at}
use Rattle.sr_live.proofs.snapshot.number_in.Given as goal

abbrev pub invariant-loop-other : goal.invariant-loop-other
invariant-loop-other l = value_at l.name (drop l.other-index l.numbers) ≡ value_at l.name l.numbers
