use Rattle.std.proofs.Common.{◌∙◌}
use Rattle.sr_check.specs.{move_answer}
use Rattle.sr_plan.proofs.ArrayLemmas.{map-written}
use Rattle.sr_plan.proofs.PlanReplyLemmas.{IsReply-moves}
use Rattle.sr_plan.proofs.reply.moves_reply.Goals as goal

pub finish-requires : goal.finish-requires
finish-requires c =
    rw (map-written move_answer c.args.moves c.loop-id.moves c.loop-id.draft c.in_default.ensures.none
    c.loop-id.invariant) (IsReply-moves c.args.moves)

pub returns : goal.returns
returns c =
    c.finish.ensures
    ∙ map-written move_answer c.args.moves c.loop-id.moves c.loop-id.draft c.in_default.ensures.none c.loop-id.invariant
