-- Where binary search finds slots. No public clause cites it.

use Rattle.std.specs.Prelude.{◌≡◌, ℕ, zero, suc, ◌≤◌, Bool, true, false, List, [], ◌∷◌, Some, length, not, slice_get}
use Rattle.std.specs.List.{count_by}
use Rattle.slab.specs.Slab.{Slab}
use Rattle.sr_ids.specs.declared.id.Id.{Id}
use Rattle.sr_pending.specs.declared.nack.Nack.{Nack}
use Rattle.sr_pending.specs.declared.blocks.Place.{Place}
use Rattle.sr_ids.specs.{is_below}
use Rattle.sr_pending.specs.steps.Blocks.{IsIn, Laid, at_of, items_of}
use Rattle.sr_pending.specs.steps.Slots.{nack_at}

-- the entry lies below the id or, if that is asked, at or below it
abbrev pub is_before : Bool → Id → Nack → Bool
is_before false id nack = is_below nack.id id
is_before true id nack = not (is_below id nack.id)

-- how many entries in these slots do
abbrev pub number_before : Bool → Id → Slab Nack → List ℕ → ℕ
number_before upto id slab slots = count_by (λ slot. is_before upto id (nack_at slab slot)) slots

-- the first i elements pass the test, and no later one
abbrev pub Splits : {X : Type 0} → (X → Bool) → List X → ℕ → Type 0
Splits p [] i = i ≡ 0
Splits p (x ∷ xs) zero = (p x ≡ false) × Splits p xs zero
Splits p (x ∷ xs) (suc i) = (p x ≡ true) × Splits p xs i

-- the element before this place passes the test, if there is one, and the element at it does not
pub record IsEdge {X : Type 0} (p : X → Bool) (xs : List X) (i : ℕ) : Type 0 where
  pub within : i ≤ length xs
  pub passed : (k : ℕ) (x : X) → suc k ≡ i → slice_get xs k ≡ Some x → p x ≡ true
  pub failed : (x : X) → slice_get xs i ≡ Some x → p x ≡ false

-- the slot before this place has an entry below the id, if there is one
abbrev pub EndsBelow : Id → Slab Nack → List ℕ → ℕ → Type 0
EndsBelow id slab slots place =
    (k slot : ℕ) → suc k ≡ place → slice_get slots k ≡ Some slot → is_before false id (nack_at slab slot) ≡ true

-- this place of a list in blocks is the first whose entry is not below the id, or the end
pub record IsBegin (id : Id) (slab : Slab Nack) (slots : Laid ℕ) (place : Place) : Type 0 where
  pub within : IsIn place slots
  pub value : at_of place slots ≡ number_before false id slab (items_of slots)

-- the slot at this place has the entry with this id
pub record IsPlace (id : Id) (slab : Slab Nack) (slots : List ℕ) (slot place : ℕ) : Type 0 where
  pub here : slice_get slots place ≡ Some slot
  pub same : (nack_at slab slot).id ≡ id

-- this slot has the entry with this id, and is one of these
pub record IsSlotOf (id : Id) (slab : Slab Nack) (slots : List ℕ) (slot : ℕ) : Type 0 where
  pub place : ℕ
  pub at : IsPlace id slab slots slot place

-- the slot at this place of a list in blocks has the entry with this id
pub record IsAt (id : Id) (slab : Slab Nack) (slots : Laid ℕ) (place : Place) : Type 0 where
  pub within : IsIn place slots
  pub slot : ℕ
  pub at : IsPlace id slab (items_of slots) slot (at_of place slots)
