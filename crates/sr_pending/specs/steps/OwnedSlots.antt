-- The slots that each owner has, as they are kept: a map from owners to lists of slots in blocks.
-- No public clause cites it.

use Rattle.std.specs.Prelude.{◌≡◌, ℕ, ◌-◌, ◌≤◌, List, [], Option, Some, None, false}
use Rattle.std.specs.HashMap.{HashMap, get}
use Rattle.std.specs.Option.{IsSome}
use Rattle.slab.specs.Slab.{Slab}
use Rattle.sr_pending.specs.declared.nack.Nack.{Nack}
use Rattle.sr_pending.specs.declared.room.Room.{Room}
use Rattle.sr_pending.specs.steps.Blocks.{Laid, items_of}
use Rattle.sr_pending.specs.steps.Slots.{nack_at, slots_of, slots_with, slots_without}
use Rattle.sr_pending.specs.Pending.{is_same_name, room_left}

-- the slots of a list in blocks: none if there is no list
abbrev pub slots_in : Option (Laid ℕ) → List ℕ
slots_in None = []
slots_in (Some slots) = items_of slots

-- how many more slots it takes without memory
abbrev pub spare_in : Option (Laid ℕ) → ℕ
spare_in None = 0
spare_in (Some slots) = slots.room

module _ {S : Type 0} where
  -- the slots that the map gives this owner
  abbrev pub slots_by : HashMap (List ℕ) (Laid ℕ) S → List ℕ → List ℕ
  slots_by held owner = slots_in (get is_same_name held owner)

  -- how many more slots of this owner it takes without memory
  abbrev pub spare_by : HashMap (List ℕ) (Laid ℕ) S → List ℕ → ℕ
  spare_by held owner = spare_in (get is_same_name held owner)

  -- this owner has a key
  abbrev pub HasKey : HashMap (List ℕ) (Laid ℕ) S → List ℕ → Type 0
  HasKey held owner = IsSome (get is_same_name held owner)

  -- each owner's slots are those of its entries
  abbrev pub IsIndexed : HashMap (List ℕ) (Laid ℕ) S → Slab Nack → List ℕ → Type 0
  IsIndexed held slab slots = (owner : List ℕ) → slots_by held owner ≡ slots_of owner slab slots

  -- each owner's slots find the room that was reserved for it
  abbrev pub HasSpare : HashMap (List ℕ) (Laid ℕ) S → List Room → Type 0
  HasSpare held rooms = (owner : List ℕ) → room_left owner rooms ≤ spare_by held owner

  -- each owner's slots stay, and the memory for more
  pub record KeepsSlots (old new : HashMap (List ℕ) (Laid ℕ) S) : Type 0 where
    pub slots : (owner : List ℕ) → slots_by new owner ≡ slots_by old owner
    pub spare : (owner : List ℕ) → spare_by old owner ≤ spare_by new owner

  -- this owner's slots become these, with memory for so many more, and no other owner's change
  pub record Gives (owner : List ℕ) (given : List ℕ) (room : ℕ) (old new : HashMap (List ℕ) (Laid ℕ) S) : Type 0 where
    pub slots : slots_by new owner ≡ given
    pub spare : room ≤ spare_by new owner
    pub others : (other : List ℕ) → is_same_name owner other ≡ false →
        get is_same_name new other ≡ get is_same_name old other

  -- the slot comes to its owner's, at the place of its entry, in memory that they have
  abbrev pub PutsSlot : ℕ → Slab Nack → HashMap (List ℕ) (Laid ℕ) S → HashMap (List ℕ) (Laid ℕ) S → Type 0
  PutsSlot slot slab old new =
      let owner = (nack_at slab slot).owner in
      Gives owner (slots_with slot slab (slots_by old owner)) (spare_by old owner - 1) old new

  -- the slot goes from its owner's, and leaves its memory
  abbrev pub TakesSlot : ℕ → Slab Nack → HashMap (List ℕ) (Laid ℕ) S → HashMap (List ℕ) (Laid ℕ) S → Type 0
  TakesSlot slot slab old new =
      let nack = nack_at slab slot in
      Gives nack.owner (slots_without nack.id slab (slots_by old nack.owner)) (spare_by old nack.owner) old new
