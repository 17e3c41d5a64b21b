use Rattle.std.proofs.Common.{◌≡◌, ℕ, ◌≤◌, Bool, true, false, List, refl, subst, sym, ◌∙◌, arith}
use Rattle.std.specs.HashMap.{HashMap}
use Rattle.std.specs.Cmp.Lexicographic.{bytes_decides}
use Rattle.slab.specs.Slab.{Slab}
use Rattle.sr_pending.specs.declared.nack.Nack.{Nack}
use Rattle.sr_pending.specs.declared.room.Room.{Room}
use Rattle.sr_pending.specs.Pending.{Releases, is_same_name, room_left}
use Rattle.sr_pending.specs.steps.Blocks.{Laid, items_of}
use Rattle.sr_pending.specs.steps.OwnedSlots.{spare_by}
use Rattle.sr_pending.specs.steps.Room.{rooms_in_all}
use Rattle.sr_pending.specs.steps.Sound.{IsSound}
use Rattle.sr_pending.proofs.pending.Pending.release.Goals as goal

-- the same entries and the same memory, with less room
less : {S : Type 0} (slab : Slab Nack) (slots : List ℕ) (rooms left : List Room) (held : HashMap (List ℕ) (Laid ℕ) S) (spare : ℕ) (owner : List ℕ) (n : ℕ)
    → IsSound slab slots rooms held spare → Releases owner n rooms left → rooms_in_all left ≤ rooms_in_all rooms
    → IsSound slab slots left held spare
less {S} slab slots rooms left held spare owner n sound releases fewer = record {
  rising = sound.rising;
  countable = sound.countable;
  taken = sound.taken;
  counted = sound.counted;
  indexed = sound.indexed;
  small = omega (arith, sound.small, fewer);
  places = omega (arith, sound.places, fewer);
  fits = omega (arith, sound.fits, fewer);
  spared = λ other. by other (is_same_name owner other) refl;
}
  where
    by : (other : List ℕ) (test : Bool) → is_same_name owner other ≡ test → room_left other left ≤ spare_by held other
    by other true e = subst (λ (o : List ℕ). room_left o left ≤ spare_by held o) ((bytes_decides owner other).0 e) (omega (arith, releases.owners, sound.spared owner))
    by other false e = omega (arith, sound.spared other, releases.others other (λ same. absurd (let both = sym e ∙ (bytes_decides owner other).1 (sym same) in cc)))

pub invariant_of-self : goal.invariant_of-self
invariant_of-self c =
    let p = c.self.inside in
    less p.slab (items_of p.slots) p.rooms.items c.take_room.new.rooms.items p.held p.slots.room c.args.owner.now c.args.n c.self.invariant c.take_room.ensures.taken c.take_room.ensures.in_all
