use Rattle.std.proofs.Common.{◌≡◌, ◌+◌, ◌<◌, [], ◌∷◌, ◌++◌, List, ℕ, length, take, get_or, Option, ap, sym, ◌∙◌}
use Rattle.std.specs.Option.{option_map}
use Rattle.std.proofs.lemmas.List.{take_more}
use Rattle.sr_ids.specs.declared.id.Id.{Id}
use Rattle.sr_pending.specs.declared.nack.Nack.{Nack}
use Rattle.sr_pending.specs.{nack_with}
use Rattle.sr_group.specs.declared.claim.Delivery.{Delivery}
use Rattle.sr_group.specs.declared.shown.Act.{Act}
use Rattle.sr_group.specs.Shown.{after_acts}
use Rattle.sr_group.specs.steps.Judging.{delivery_after, delivery_of}
use Rattle.sr_group.proofs.FoundLemmas.{delivery_after-act, after_acts-append}
use Rattle.sr_group.proofs.claim.delivery_after_all.Goals as goal

step : (acts : List Act) (i : ℕ) (act : Act) (id : Id) (nacks : List Nack) (before after : Option Delivery) → i < length acts → act ≡ get_or acts i act
    → before ≡ option_map delivery_of (nack_with id (after_acts (take i acts) nacks)) → after ≡ delivery_after act id before
    → after ≡ option_map delivery_of (nack_with id (after_acts (take (i + 1) acts) nacks))
step acts i act id nacks before after within read so_far is =
    let front = take i acts in
    let more : take (i + 1) acts ≡ front ++ act ∷ [] = take_more acts i act within ∙ ap (λ (a : Act). front ++ a ∷ []) (sym read) in
    let same : after_acts (take (i + 1) acts) nacks ≡ after_acts (act ∷ []) (after_acts front nacks) = ap (λ (l : List Act). after_acts l nacks) more ∙ after_acts-append front (act ∷ []) nacks in
    is
    ∙ ap (delivery_after act id) so_far
    ∙ sym (delivery_after-act act id (after_acts front nacks))
    ∙ ap (λ (l : List Nack). option_map delivery_of (nack_with id l)) (sym same)

pub loop-act-preserved : goal.loop-act-preserved
loop-act-preserved c =
    step c.args.acts.now c.loop-act.act-index c.act-item.result c.args.id c.args.pending.now.nacks c.loop-act.delivery c.delivery_after-delivery.result c.loop-act-test.true c.act-item.is c.loop-act.invariant c.delivery_after-delivery.ensures
