use Rattle.std.proofs.Common.{◌≡◌, suc, ◌∷◌, List, Result, Ok, Err, length, refl, ap, sym, subst, ◌∙◌, arith}
use Rattle.std.specs.List.{All}
use Rattle.std.specs.Result.{OnErr}
use Rattle.std.proofs.lemmas.List.{nil_from_length}
use Rattle.std.proofs.lemmas.List.Elements.{All-head, All-same, All-tail}
use Rattle.std.specs.Vec.Iter.{into_iter_items}
use Rattle.sr_pending.specs.{room_left}
use Rattle.sr_pending.specs.Pending.{HaveSameRooms}
use Rattle.sr_group.specs.Claim.{HasCount, MoveState}
use Rattle.sr_group.specs.Group.{KeptGroup}
use Rattle.sr_group.specs.steps.Moving.{HaveRooms}
use Rattle.sr_group.proofs.MovingLemmas.{HaveRooms-added, HaveRooms-first, HaveRooms-kept, HaveRooms-same, HaveRooms-spent, IsGroup-same, moved-all, moved-first, shown-same}
use Rattle.sr_group.proofs.group.Group.move_all.Goals as goal

pub carry_out-requires-clause-room : goal.carry_out-requires-clause-room
carry_out-requires-clause-room c =
    let all = into_iter_items c.loop-ready.ready-iterator in
    let left = into_iter_items c.next.new.self in
    let items : all ≡ c.in-Some.ready ∷ left = c.in-Some.ensures.steps.0 in
    let base = c.args.self.now.rooms in
    let now = c.loop-ready.self.rooms in
    HaveRooms-first c.in-Some.ready left base now (subst (λ (l : List MoveState). HaveRooms l base now) items c.loop-ready.invariant.1)

pub loop-ready-preserved : goal.loop-ready-preserved
loop-ready-preserved c =
    let all = into_iter_items c.loop-ready.ready-iterator in
    let left = into_iter_items c.next.new.self in
    let items : all ≡ c.in-Some.ready ∷ left = c.in-Some.ensures.steps.0 in
    let len : length all ≡ suc (length left) = ap (λ (l : List MoveState). length l) items in
    let base = c.args.self.now.rooms in
    let now = c.loop-ready.self.rooms in
    let so_far = c.loop-ready.invariant in (
      moved-first c.args.moment c.args.entries.now.entries c.in-Some.ready all left c.loop-ready.self.shown c.carry_out.new.self.shown items c.carry_out.ensures.shown ∙ so_far.0,
      HaveRooms-spent c.in-Some.ready left base now c.carry_out.new.self.rooms (subst (λ (l : List MoveState). HaveRooms l base now) items so_far.1) c.carry_out.ensures.rooms,
      omega (arith, len, so_far.2, c.carry_out.ensures.places),
      All-tail HasCount c.in-Some.ready left (subst (λ (l : List MoveState). All HasCount l) items so_far.3),
      omega (arith, len, so_far.4, c.in-Some.ensures.steps.1),
    )

holds : {T E : Type 0} (result : Result T E) (P : Type 0) → P → OnErr result P
holds (Ok value) P is = tt
holds (Err error) P is = is

pub invariant_of-self : goal.invariant_of-self
invariant_of-self c = IsGroup-same _ _ _ _ _ c.in_err-reserve.ensures.items refl c.self.invariant

pub invariant_of-self-in_err-make_rooms : goal.invariant_of-self-in_err-make_rooms
invariant_of-self-in_err-make_rooms c = IsGroup-same _ _ _ _ _ c.in_ok-reserve.ensures.items c.in_err-make_rooms.ensures.nacks c.self.invariant

pub invariant_of-self-2 : goal.invariant_of-self-2
invariant_of-self-2 c = IsGroup-same _ _ _ _ _ c.in_ok-reserve.ensures.items c.in_ok-make_rooms.ensures.nacks c.self.invariant

pub returns-in_err-reserve-clause-err : goal.returns-in_err-reserve-clause-err
returns-in_err-reserve-clause-err c =
    holds _ _ (shown-same _ _ _ _ _ _ c.in_err-reserve.ensures.items refl (ap (λ (g : KeptGroup). g.shown) c.self.view_is))

pub returns-in_err-make_rooms-clause-err : goal.returns-in_err-make_rooms-clause-err
returns-in_err-make_rooms-clause-err c =
    holds _ _ (shown-same _ _ _ _ _ _ c.in_ok-reserve.ensures.items c.in_err-make_rooms.ensures.nacks (ap (λ (g : KeptGroup). g.shown) c.self.view_is))

pub returns-in_err-reserve-clause-rooms : goal.returns-in_err-reserve-clause-rooms
returns-in_err-reserve-clause-rooms c =
    let same : HaveSameRooms c.args.self.now.rooms c.self.inside.pending.rooms = λ owner. ap (λ (g : KeptGroup). room_left owner g.rooms) c.self.view_is in
    holds _ _ same

pub returns-in_err-make_rooms-clause-rooms : goal.returns-in_err-make_rooms-clause-rooms
returns-in_err-make_rooms-clause-rooms c =
    let same : HaveSameRooms c.args.self.now.rooms c.make_rooms.new.pending.rooms = λ owner. c.in_err-make_rooms.ensures.err owner ∙ ap (λ (g : KeptGroup). room_left owner g.rooms) c.self.view_is in
    holds _ _ same

pub loop-ready-init : goal.loop-ready-init
loop-ready-init c =
    let gives = c.into_iter-ready-iterator.ensures.into_iter_gives in
    let readies = c.in_ok-readies.readies in
    let len : length (into_iter_items c.into_iter-ready-iterator.result) ≡ length readies.items = ap (λ (l : List MoveState). length l) gives.0 in (
      refl,
      HaveRooms-same c.as_slice.result.now (into_iter_items c.into_iter-ready-iterator.result) c.args.self.now.rooms c.self.inside.pending.rooms c.make_rooms.new.pending.rooms (gives.0 ∙ sym c.as_slice.ensures.value) (ap (λ (g : KeptGroup). g.rooms) c.self.view_is) (HaveRooms-added c.as_slice.result.now c.self.inside.pending.rooms c.make_rooms.new.pending.rooms c.in_ok-make_rooms.ensures.rooms),
      omega (arith, len, readies.ok.0, c.len.ensures, c.in_ok-reserve.ensures.ok),
      All-same HasCount _ _ (gives.0 ∙ c.in_ok-readies.ensures) c.requires.counts,
      omega (arith, len, readies.ok.0, gives.1),
    )

pub carry_out-requires-clause-count : goal.carry_out-requires-clause-count
carry_out-requires-clause-count c =
    All-head HasCount _ _ (subst (λ (l : List MoveState). All HasCount l) c.in-Some.ensures.steps.0 c.loop-ready.invariant.3)

pub carry_out-requires-clause-place : goal.carry_out-requires-clause-place
carry_out-requires-clause-place c =
    let len : length (into_iter_items c.loop-ready.ready-iterator) ≡ suc (length (into_iter_items c.next.new.self)) = ap (λ (l : List MoveState). length l) c.in-Some.ensures.steps.0 in
    omega (arith, len, c.loop-ready.invariant.2)

pub returns-clause-ok : goal.returns-clause-ok
returns-clause-ok c =
    let none = nil_from_length _ (sym c.loop-ready.invariant.4 ∙ c.in-None.ensures.steps.0) in
    let first = shown-same _ _ _ _ _ _ c.in_ok-reserve.ensures.items c.in_ok-make_rooms.ensures.nacks (ap (λ (g : KeptGroup). g.shown) c.self.view_is) in
    moved-all _ _ _ _ _ _ _ _ none (c.into_iter-ready-iterator.ensures.into_iter_gives.0 ∙ c.in_ok-readies.ensures) first c.loop-ready.invariant.0

pub returns-clause-kept : goal.returns-clause-kept
returns-clause-kept c =
    let none = nil_from_length _ (sym c.loop-ready.invariant.4 ∙ c.in-None.ensures.steps.0) in
    HaveRooms-kept c.args.self.now.rooms c.loop-ready.self.rooms (subst (λ (l : List MoveState). HaveRooms l c.args.self.now.rooms c.loop-ready.self.rooms) none c.loop-ready.invariant.1)
