use Rattle.std.proofs.Common.{◌≡◌, ℕ, [], ◌∷◌, length, map, subst, sym, arith}
use Rattle.std.proofs.lemmas.List.{length-map}
use Rattle.sr_pending.specs.Pending.{Releases}
use Rattle.sr_group.specs.declared.moving.Wanted.{Wanted}
use Rattle.sr_group.specs.Claim.{MoveState}
use Rattle.sr_group.specs.steps.Moving.{AddsRooms}
use Rattle.sr_group.proofs.MovingLemmas.{AddsRooms-own, HaveSameRooms-released}
use Rattle.sr_group.proofs.moving.+make_rooms.Goals as goal

pub release-requires : goal.release-requires
release-requires t c =
    let ready = c.first.inside in
    let move : MoveState = record { claimer = ready.claimer; claim = ready.claim; ids = map (λ (w : Wanted). w.id) ready.wanted.items } in
    let old = c.args.pending.now.rooms in
    let mid = c.make_room.new.pending.rooms in
    let now = c.make_rooms.new.pending.rooms in
    let len : length move.ids ≡ length ready.wanted.items = length-map ready.wanted.items (λ (w : Wanted). w.id) in
    let added : AddsRooms (move ∷ []) old mid = subst (λ (m : MoveState). AddsRooms (m ∷ []) old mid) (sym c.first.view_is) c.in_ok-make_room.ensures.rooms in
    let own = AddsRooms-own move old mid now added c.in-Err.ensures.err in
    omega (arith, len, c.len.ensures, ready.wanted.ok.0, own)

pub returns-in-Err-clause-err : goal.returns-in-Err-clause-err
returns-in-Err-clause-err t c =
    let ready = c.first.inside in
    let move : MoveState = record { claimer = ready.claimer; claim = ready.claim; ids = map (λ (w : Wanted). w.id) ready.wanted.items } in
    let old = c.args.pending.now.rooms in
    let mid = c.make_room.new.pending.rooms in
    let now = c.make_rooms.new.pending.rooms in
    let new = c.release.new.self.rooms in
    let len : length move.ids ≡ length ready.wanted.items = length-map ready.wanted.items (λ (w : Wanted). w.id) in
    let many : c.len.result ≡ length move.ids = omega (arith, len, c.len.ensures, ready.wanted.ok.0) in
    let added : AddsRooms (move ∷ []) old mid = subst (λ (m : MoveState). AddsRooms (m ∷ []) old mid) (sym c.first.view_is) c.in_ok-make_room.ensures.rooms in
    let released : Releases move.claimer (length move.ids) now new = subst (λ (n : ℕ). Releases move.claimer n now new) many c.release.ensures.room in
    HaveSameRooms-released move old mid now new added c.in-Err.ensures.err released
