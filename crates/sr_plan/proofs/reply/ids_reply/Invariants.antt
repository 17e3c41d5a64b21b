use Rattle.std.proofs.Common.{◌≡◌, ◌++◌, length}
use Rattle.std.specs.List.{flat_map}
use Rattle.sr_resp.specs.{array_header}
use Rattle.sr_check.specs.{id_answer}
use Rattle.sr_plan.proofs.reply.ids_reply.Given as goal

abbrev pub invariant-loop-id : goal.invariant-loop-id
invariant-loop-id l =
    l.draft ++ flat_map id_answer l.shortage ≡ array_header (length l.initial.shortage)
    ++ flat_map id_answer l.initial.shortage

abbrev pub decreases-loop-id : goal.decreases-loop-id
decreases-loop-id l = length l.shortage
