use Rattle.std.proofs.Common.{drop, length, map}
use Rattle.sr_plan.specs.steps.Dealing.{AreDealing}
use Rattle.sr_plan.proofs.batches.deal.Given as goal

abbrev pub invariant-loop-i : goal.invariant-loop-i
invariant-loop-i l =
    AreDealing (map (λ entry. entry.id) l.stranded) l.assign (map (λ entry. entry.id) (drop l.i l.stranded)) (drop l.i l.assign)
    (length l.fn.lists) l.lists
