use Rattle.sr_solver.proofs.CrowdLemmas.{confined_more}
use Rattle.sr_solver.proofs.crowd.confined.Goals as goal

pub loop-entry-preserved : goal.loop-entry-preserved
loop-entry-preserved c =
    rw c.in_ok-push.ensures.items (
    confined_more c.args.sets.now c.loop-entry.entry c.args.among c.loop-entry.confined.items c.loop-entry.invariant
    (c.is_within.ensures.0 c.if-not-is_within.false)
    )
