use Rattle.std.proofs.Common.{◌≡◌, [], ◌∷◌, length, map, subst, arith}
use Rattle.std.proofs.lemmas.List.{length-map}
use Rattle.sr_group.specs.declared.moving.Wanted.{Wanted}
use Rattle.sr_group.specs.Claim.{MoveState}
use Rattle.sr_group.specs.steps.Moving.{AddsRooms}
use Rattle.sr_group.proofs.MovingLemmas.{AddsRooms-reserved}
use Rattle.sr_group.proofs.moving.make_room.Goals as goal

pub returns-in_ok-reserve-in-Some-clause-rooms : goal.returns-in_ok-reserve-in-Some-clause-rooms
returns-in_ok-reserve-in-Some-clause-rooms c =
    let ready = c.ready.inside in
    let move : MoveState = record { claimer = ready.claimer; claim = ready.claim; ids = map (λ (w : Wanted). w.id) ready.wanted.items } in
    let old = c.args.pending.now.rooms in
    let new = c.reserve.new.self.rooms in
    let len : length move.ids ≡ length ready.wanted.items = length-map ready.wanted.items (λ (w : Wanted). w.id) in
    let made : AddsRooms (move ∷ []) old new = AddsRooms-reserved move c.in-Some.room old new (omega (arith, len, c.room-room.ensures)) c.in_ok-reserve-in-Some.ensures.exact in
    subst (λ (m : MoveState). AddsRooms (m ∷ []) old new) c.ready.view_is made
