use Rattle.std.proofs.Common.{◌∙◌}
use Rattle.sr_check.specs.{id_answer}
use Rattle.sr_plan.proofs.ArrayLemmas.{map-written}
use Rattle.sr_plan.proofs.PlanReplyLemmas.{IsReply-ids}
use Rattle.sr_plan.proofs.reply.ids_reply.Goals as goal

pub finish-requires : goal.finish-requires
finish-requires c =
    rw (map-written id_answer c.args.shortage c.loop-id.shortage c.loop-id.draft c.in_default.ensures.none
    c.loop-id.invariant) (IsReply-ids c.args.shortage)

pub returns : goal.returns
returns c =
    c.finish.ensures
    ∙ map-written id_answer c.args.shortage c.loop-id.shortage c.loop-id.draft c.in_default.ensures.none
    c.loop-id.invariant
