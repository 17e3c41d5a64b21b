use Rattle.std.proofs.Common.{◌≡◌, ◌≤◌}
use Rattle.sr_pending.proofs.Carrying.{Carries}
use Rattle.sr_pending.proofs.closed_blocks.carry.Given as goal

abbrev pub invariant-loop-at : goal.invariant-loop-at
invariant-loop-at g l = Carries l.fn.from l.fn.value l.fn.closed l.closed l.value l.at × (l.tail ≡ l.fn.tail) × (l.from ≤ l.at)
