use Rattle.std.proofs.Common.{drop, map}
use Rattle.sr_check.specs.{share_answer, reached_from}
use Rattle.sr_plan.proofs.ArrayLemmas.{HasLeft}
use Rattle.sr_plan.proofs.reply.rooms_reply.Given as goal

abbrev pub invariant-loop-number : goal.invariant-loop-number
invariant-loop-number l =
    HasLeft l.reply (map share_answer (reached_from l.problem l.set l.number (drop l.number l.live)))
    (map share_answer (reached_from l.problem l.set 0 l.live))
