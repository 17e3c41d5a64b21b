use Rattle.std.proofs.Common.{◌≡◌, length, filter, refl, ap, vec_len, vec_capacity}
use Rattle.sr_group.specs.Group.{KeptGroup}
use Rattle.sr_group.specs.steps.Showing.{is_gift}
use Rattle.sr_group.proofs.GroupLemmas.{HasRoomFor-made}
use Rattle.sr_group.proofs.MovingLemmas.{IsGroup-same, shown-same}
use Rattle.sr_group.proofs.group.Group.prepare.Goals as goal

pub returns-clause-room : goal.returns-clause-room
returns-clause-room c =
    let consumers = c.make_place.new.consumers in
    let count : c.count_gifts.result ≡ length (filter is_gift c.args.acts.items) = rw c.as_slice.ensures.value at c.count_gifts.ensures in
    HasRoomFor-made _ _ c.args.consumer.now c.count_gifts.result (vec_len consumers) (vec_capacity consumers) c.in_ok-name.ensures count c.in_ok-reserve.ensures.room c.in_ok-make_place.ensures.ok refl

pub invariant_of-self : goal.invariant_of-self
invariant_of-self c = IsGroup-same _ _ _ _ _ refl c.in_err-reserve.ensures.nacks c.self.invariant

pub invariant_of-self-in_err-make_place : goal.invariant_of-self-in_err-make_place
invariant_of-self-in_err-make_place c = IsGroup-same _ _ _ _ _ c.in_err-make_place.ensures.items c.in_ok-reserve.ensures.nacks c.self.invariant

pub invariant_of-self-2 : goal.invariant_of-self-2
invariant_of-self-2 c = IsGroup-same _ _ _ _ _ c.in_ok-make_place.ensures.items c.in_ok-reserve.ensures.nacks c.self.invariant

pub returns-in_err-reserve-clause-shown : goal.returns-in_err-reserve-clause-shown
returns-in_err-reserve-clause-shown c = shown-same _ _ _ _ _ _ refl c.in_err-reserve.ensures.nacks (ap (λ (g : KeptGroup). g.shown) c.self.view_is)

pub returns-in_err-make_place-clause-shown : goal.returns-in_err-make_place-clause-shown
returns-in_err-make_place-clause-shown c = shown-same _ _ _ _ _ _ c.in_err-make_place.ensures.items c.in_ok-reserve.ensures.nacks (ap (λ (g : KeptGroup). g.shown) c.self.view_is)

pub returns-clause-shown : goal.returns-clause-shown
returns-clause-shown c = shown-same _ _ _ _ _ _ c.in_ok-make_place.ensures.items c.in_ok-reserve.ensures.nacks (ap (λ (g : KeptGroup). g.shown) c.self.view_is)
