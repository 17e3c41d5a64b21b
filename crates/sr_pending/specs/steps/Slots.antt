-- The entries as they are kept, each in a slot of a slab, and lists of slots. No public clause cites it.

use Rattle.std.specs.Prelude.{◌≡◌, ◌≢◌, ⊤, ℕ, ◌+◌, List, [], ◌∷◌, ◌++◌, Option, Some, None, length, map, filter, not}
use Rattle.std.specs.List.{All}
use Rattle.slab.specs.Slab.{Slab, ContainsKey, Updates, get, slab_len}
use Rattle.sr_ids.specs.declared.id.Id.{Id}
use Rattle.sr_pending.specs.declared.nack.Nack.{Nack}
use Rattle.sr_ids.specs.{is_below, is_same_id}
use Rattle.sr_pending.specs.Pending.{is_same_name}

-- the entry, and one of 0-0 and of nobody if there is none
abbrev pub nack_or : Option Nack → Nack
nack_or None = record { id = record { ms = 0; seq = 0 }; owner = []; time = 0; count = 0 }
nack_or (Some nack) = nack

-- the entry in this slot
abbrev pub nack_at : Slab Nack → ℕ → Nack
nack_at slab slot = nack_or (get slab slot)

-- the entries in these slots
abbrev pub nacks_at : Slab Nack → List ℕ → List Nack
nacks_at slab slots = map (λ slot. nack_at slab slot) slots

-- each of these slots has an entry
abbrev pub AreTaken : Slab Nack → List ℕ → Type 0
AreTaken slab slots = All (λ slot. ContainsKey slab slot) slots

-- the slots of the entries of this owner, and of the others
abbrev pub slots_of : List ℕ → Slab Nack → List ℕ → List ℕ
slots_of owner slab slots = filter (λ slot. is_same_name (nack_at slab slot).owner owner) slots

abbrev pub slots_without_owner : List ℕ → Slab Nack → List ℕ → List ℕ
slots_without_owner owner slab slots = filter (λ slot. not (is_same_name (nack_at slab slot).owner owner)) slots

-- without the slot of the entry with this id
abbrev pub slots_without : Id → Slab Nack → List ℕ → List ℕ
slots_without id slab slots = filter (λ slot. not (is_same_id (nack_at slab slot).id id)) slots

-- with one slot more, at the place of its entry
abbrev pub slots_with : ℕ → Slab Nack → List ℕ → List ℕ
slots_with slot slab slots =
    filter (λ other. is_below (nack_at slab other).id (nack_at slab slot).id) slots
    ++ slot ∷ filter (λ other. is_below (nack_at slab slot).id (nack_at slab other).id) slots

-- no slot is there twice
abbrev pub AreDistinct : List ℕ → Type 0
AreDistinct [] = ⊤
AreDistinct (slot ∷ slots) = All (λ other. other ≢ slot) slots × AreDistinct slots

-- the entry in this slot is this one now, and no other slot changed
pub record Writes (slot : ℕ) (nack : Nack) (old new : Slab Nack) : Type 0 where
  pub updates : Updates old new slot (Some nack)
  pub len : slab_len new ≡ slab_len old
  pub capacity : new.capacity ≡ old.capacity

-- these slots are empty now, and no other slot changed
pub record Frees (slots : List ℕ) (old new : Slab Nack) : Type 0 where
  pub others : (slot : ℕ) → All (λ freed. freed ≢ slot) slots → get new slot ≡ get old slot
  pub len : slab_len new + length slots ≡ slab_len old
  pub capacity : new.capacity ≡ old.capacity
