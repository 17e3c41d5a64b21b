use Rattle.std.proofs.Common.{◌≡◌, drop}
use Rattle.sr_live.specs.Said.{fields_at}
use Rattle.sr_live.proofs.ranges.fields_at.Given as goal

abbrev pub invariant-loop-other : goal.invariant-loop-other
invariant-loop-other l = fields_at l.id (drop l.other-index l.entries) ≡ fields_at l.id l.entries
