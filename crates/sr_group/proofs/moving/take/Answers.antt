use Rattle.std.proofs.Common.{◌≡◌, Bool, true, false, cond, ◌||◌, List, [], ◌∷◌, Some, sym, refl, ◌∙◌}
use Rattle.std.specs.Option.{option_map}
use Rattle.std.proofs.lemmas.List.Elements.{All-nil}
use Rattle.sr_ids.specs.declared.id.Id.{Id}
use Rattle.sr_ids.specs.{is_same_id}
use Rattle.sr_pending.specs.declared.nack.Nack.{Nack}
use Rattle.sr_pending.specs.{nack_with, with_nack}
use Rattle.sr_pending.specs.Pending.{has_id}
use Rattle.sr_group.specs.declared.claim.Delivery.{Delivery}
use Rattle.sr_group.specs.declared.shown.Act.TheVariants.{Give, Forget}
use Rattle.sr_group.specs.steps.Judging.{delivery_of}
use Rattle.sr_group.specs.steps.Showing.{IsActOf}
use Rattle.sr_group.proofs.JudgeLemmas.{Judges-none, Judges-pushed, count-known}
use Rattle.sr_group.proofs.ShowLemmas.{moved-with_nack}
use Rattle.sr_group.proofs.moving.take.Goals as goal

-- an entry that has a delivery is pending
pending-known : (id : Id) (xs : List Nack) (delivery : Delivery) → Some delivery ≡ option_map delivery_of (nack_with id xs) → has_id id xs ≡ true
pending-known id [] delivery is = absurd (cc is)
pending-known id (x ∷ xs) delivery is = by (λ later. pending-known id xs delivery later) (is_same_id x.id id) is
  where
    by : (Some delivery ≡ option_map delivery_of (nack_with id xs) → has_id id xs ≡ true) → (test : Bool)
        → Some delivery ≡ option_map delivery_of (cond test (Some x) (nack_with id xs)) → (test || has_id id xs) ≡ true
    by rest true here = refl
    by rest false later = rest later

pub move_to-requires-clause-pending : goal.move_to-requires-clause-pending
move_to-requires-clause-pending c = pending-known c.args.wanted.id c.args.pending.now.nacks c.in-Some.delivery (sym c.in-Some.is ∙ c.first_delivery.ensures)

pub weigh-requires-clause-old : goal.weigh-requires-clause-old
weigh-requires-clause-old c = count-known c.args.wanted.id c.args.pending.now.nacks c.in-Some.delivery (sym c.in-Some.is ∙ c.first_delivery.ensures) c.sound.ensures.countable

pub returns-in-Stays-clause-nacks : goal.returns-in-Stays-clause-nacks
returns-in-Stays-clause-nacks c =
    let call = c.args.call.now in
    (Judges-none call.claim call.claimer.now call.moment call.entries.now.entries c.args.pending.now.nacks c.args.wanted.id c.in-Some.delivery [] (sym c.in-Some.is ∙ c.first_delivery.ensures)
    c.in-Stays.ensures.act (All-nil (IsActOf call.claimer.now))).after

pub returns-in-Leaves-clause-nacks : goal.returns-in-Leaves-clause-nacks
returns-in-Leaves-clause-nacks c =
    let call = c.args.call.now in
    c.remove.ensures.nacks
    ∙ (Judges-pushed call.claim call.claimer.now call.moment call.entries.now.entries c.args.pending.now.nacks c.args.wanted.id c.in-Some.delivery (Forget c.args.wanted.id) [] (Forget c.args.wanted.id ∷ [])
    (sym c.in-Some.is ∙ c.first_delivery.ensures) c.in-Leaves.ensures.act c.in-Leaves.ensures.own (All-nil (IsActOf call.claimer.now)) refl).after

pub returns-in-Moves-clause-nacks : goal.returns-in-Moves-clause-nacks
returns-in-Moves-clause-nacks c =
    let call = c.args.call.now in
    let time = c.in-Moves.field-0.time in
    let count = c.in-Moves.field-0.count in
    let act = Give (record { id = c.args.wanted.id; owner = call.claimer.now; time = time; count = count }) in
    let given : with_nack (record { id = c.args.wanted.id; owner = c.args.wanted.owner; time = time; count = count }) c.args.pending.now.nacks
    ≡ with_nack (record { id = c.args.wanted.id; owner = call.claimer.now; time = time; count = count }) c.args.pending.now.nacks = rw c.requires.owner refl in
    let moved = moved-with_nack (record { id = c.args.wanted.id; owner = c.args.wanted.owner; time = time; count = count }) c.args.pending.now.nacks c.sound.ensures.rising
    (pending-known c.args.wanted.id c.args.pending.now.nacks c.in-Some.delivery (sym c.in-Some.is ∙ c.first_delivery.ensures)) in
    c.move_to.ensures.nacks
    ∙ moved
    ∙ given
    ∙ (Judges-pushed call.claim call.claimer.now call.moment call.entries.now.entries c.args.pending.now.nacks c.args.wanted.id c.in-Some.delivery act [] (act ∷ [])
    (sym c.in-Some.is ∙ c.first_delivery.ensures) c.in-Moves.ensures.act c.in-Moves.ensures.own (All-nil (IsActOf call.claimer.now)) refl).after
