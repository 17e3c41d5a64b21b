use Rattle.std.proofs.Common.{List, ◌∙◌, ap, map}
use Rattle.std.proofs.lemmas.Result.{IfOk-weaker}
use Rattle.sr_ids.specs.declared.id.Id.{Id}
use Rattle.sr_policy.specs.declared.stranded.Stranded.{Stranded}
use Rattle.sr_resp.specs.{array_of}
use Rattle.sr_check.specs.{id_answer}
use Rattle.sr_plan.specs.Verdict.{id_at}
use Rattle.sr_plan.proofs.PlanReplyLemmas.{shortage-written}
use Rattle.sr_plan.proofs.reply.shortage_reply.Goals as goal

pub returns : goal.returns
returns c =
    let named =
    c.new.ensures ∙ ap (λ (stranded : List Stranded). map (id_at stranded) c.args.set.now) c.stranded.ensures in
    let ids = c.in_ok-ids.ensures ∙ ap (λ (ids : List Id). array_of (map id_answer ids)) named in
    IfOk-weaker c.array.result _ _
    (λ reply is applied. is
    ∙ shortage-written c.args.snapshot.now c.args.set.now c.in_ok-problem.problem c.places.result _ _ _ _ applied
    c.in_ok-problem.ensures.ok c.short-word.ensures ids c.in_ok-rooms.ensures c.number_reply-places.ensures
    c.places.ensures.value)
    c.array.ensures
