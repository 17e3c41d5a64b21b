use Rattle.std.proofs.Common.{map}
use Rattle.sr_check.specs.PlanReply.{reached_from, share_answer}
use Rattle.sr_check.proofs.ListLemmas.{AreLeft, rooms_from}
use Rattle.sr_check.proofs.shortage.after_rooms.Given as goal

abbrev pub invariant-loop-number : goal.invariant-loop-number
invariant-loop-number l =
    AreLeft (map share_answer (reached_from l.problem l.set 0 l.live)) l.initial.left
    (rooms_from l.problem l.set l.number l.live) l.left
