use Rattle.std.proofs.Common.{take}
use Rattle.sr_check.specs.steps.Read.{AreRead, HasMove}
use Rattle.sr_check.proofs.plan.moves_of.Given as goal

abbrev pub invariant-loop-entry : goal.invariant-loop-entry
invariant-loop-entry l = AreRead (HasMove l.live) (take l.entry-index l.stranded) l.initial.left l.assign.items l.left
