use Rattle.std.proofs.Common.{List, ℕ, ◌∙◌, ap, map, refl, arith}
use Rattle.std.specs.List.{zip}
use Rattle.std.proofs.lemmas.Result.{IfOk-from_err, IfOk-weaker}
use Rattle.sr_ids.specs.declared.id.Id.{Id}
use Rattle.sr_policy.specs.declared.live.Live.{Live}
use Rattle.sr_policy.specs.declared.stranded.Stranded.{Stranded}
use Rattle.sr_policy.specs.{Text}
use Rattle.sr_resp.specs.{array_of, bulk_string}
use Rattle.sr_check.specs.{id_answer, move_answer, price_answer}
use Rattle.sr_plan.specs.Verdict.{name_at, prices_by}
use Rattle.sr_plan.proofs.BestLemmas.{AreMoves-best, ArePrices-best}
use Rattle.sr_plan.proofs.MovesLemmas.{prices-told}
use Rattle.sr_plan.proofs.PlanReplyLemmas.{plan-written}
use Rattle.sr_plan.proofs.reply.plan_reply.Goals as goal

pub new-moves-requires : goal.new-moves-requires
new-moves-requires c =
    let moves = AreMoves-best c.args.snapshot.now c.args.assign.now c.args.assign.now c.args.prices.now c.args.total
    c.stranded.result.now c.live-live.result.now c.requires.best refl c.stranded.ensures c.live-live.ensures in
    record { each = moves.each; consumers = moves.consumers }

pub number_reply-cost-requires : goal.number_reply-cost-requires
number_reply-cost-requires c = omega (arith, c.requires.best.small_total)

pub new-requires : goal.new-requires
new-requires c =
    ArePrices-best c.args.snapshot.now c.args.assign.now c.args.prices.now c.args.prices.now c.args.total
    c.live-live.result.now
    c.requires.best refl c.live-live.ensures

pub prices_reply-requires : goal.prices_reply-requires
prices_reply-requires c = rw c.new.ensures (prices-told c.live-live.result.now c.args.prices.now c.requires.told)

pub returns-in_err-moves : goal.returns-in_err-moves
returns-in_err-moves c = IfOk-from_err _ _ c.from_residual.ensures.0

pub returns-in_err-prices : goal.returns-in_err-prices
returns-in_err-prices c = IfOk-from_err _ _ c.from_residual-in_err-prices.ensures.0

pub returns-in_err-gone : goal.returns-in_err-gone
returns-in_err-gone c = IfOk-from_err _ _ c.from_residual-in_err-gone.ensures.0

pub returns : goal.returns
returns c =
    let shown = c.args.snapshot.now in
    let assign = c.args.assign.now in
    let prices = c.args.prices.now in
    let ids : List Stranded → List Id = map (λ (entry : Stranded). entry.id) in
    let word = c.short-word.ensures ∙ ap bulk_string c.word_of.ensures in
    let stranded = ap (λ (entries : List Stranded). zip (ids entries) (map (name_at c.live-live.result.now) assign))
    c.stranded.ensures in
    let named = ap (λ (live : List Live). zip (ids shown.stranded) (map (name_at live) assign)) c.live-live.ensures in
    let moves = c.in_ok-moves.ensures
    ∙ ap (λ (list : List (Id × Text)). array_of (map move_answer list)) (c.new-moves.ensures ∙ stranded ∙ named) in
    let priced = c.in_ok-prices.ensures
    ∙ ap (λ (all : List (Text × List ℕ)). array_of (map price_answer all))
    (c.new.ensures ∙ ap (λ (live : List Live). prices_by live prices) c.live-live.ensures) in
    let gone = c.in_ok-gone.ensures
    ∙ ap (λ (list : List (Id × Text)). array_of (map (λ (pair : Id × Text). id_answer pair.0) list)) c.gone.ensures in
    IfOk-weaker c.array.result _ _
    (λ reply is. is ∙ plan-written shown assign prices c.args.total _ _ _ _ _ c.args.applied word
    c.number_reply-cost.ensures moves priced gone)
    c.array.ensures
