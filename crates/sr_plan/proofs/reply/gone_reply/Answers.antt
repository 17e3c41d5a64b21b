use Rattle.std.proofs.Common.{◌∙◌}
use Rattle.sr_ids.specs.declared.id.Id.{Id}
use Rattle.sr_policy.specs.{Text}
use Rattle.sr_check.specs.{id_answer}
use Rattle.sr_plan.proofs.PlanReplyLemmas.{IsReply-gone, list-written}
use Rattle.sr_plan.proofs.reply.gone_reply.Goals as goal

pub finish-requires : goal.finish-requires
finish-requires c =
    rw (list-written (λ (pair : Id × Text). id_answer pair.0) c.args.gone.now c.loop-id.id-index c.loop-id.draft
    c.loop-id-test.false c.loop-id.invariant)
    (IsReply-gone c.args.gone.now)

pub returns : goal.returns
returns c =
    c.finish.ensures
    ∙ list-written (λ (pair : Id × Text). id_answer pair.0) c.args.gone.now c.loop-id.id-index c.loop-id.draft
    c.loop-id-test.false c.loop-id.invariant
