-- The slots of each owner: after a list in the map changes, and after the entries do.
use Rattle.std.proofs.Common.{◌≡◌, ℕ, ◌-◌, ◌≤◌, Bool, true, false, cond, not, List, [], ◌∷◌, ◌++◌, filter, slice_get, Some, refl, ap, subst, sym, ◌∙◌, arith}
use Rattle.std.specs.HashMap.{HashMap, Updates, get}
use Rattle.std.specs.Cmp.Lexicographic.{bytes_decides}
use Rattle.std.specs.List.{count_by}
use Rattle.std.proofs.lemmas.List.Elements.{filter-append}
use Rattle.slab.specs.Slab.{Slab}
use Rattle.sr_ids.specs.declared.id.Id.{Id}
use Rattle.sr_pending.specs.declared.nack.Nack.{Nack}
use Rattle.sr_pending.specs.declared.room.Room.{Room}
use Rattle.sr_ids.specs.{is_below, is_same_id}
use Rattle.sr_pending.specs.Pending.{AreRising, UsesRoom, has_id, is_same_name, owned_by, room_left}
use Rattle.sr_pending.specs.steps.Blocks.{Laid, items_of}
use Rattle.sr_pending.specs.steps.OwnedSlots.{Gives, HasSpare, IsIndexed, KeepsSlots, PutsSlot, TakesSlot, slots_by, slots_in, spare_by, spare_in}
use Rattle.sr_pending.specs.steps.Slots.{nack_at, nacks_at, slots_of, slots_with, slots_without, slots_without_owner}
use Rattle.sr_pending.proofs.NackLemmas.{AreRising-filter}
use Rattle.sr_pending.proofs.FilterLemmas.{filter-filter, filter-first_no, filter-first_yes, filter-insert_no, filter-remove_no, has_id-filter}
use Rattle.sr_pending.proofs.PlaceLemmas.{inserted, removed}
use Rattle.sr_pending.proofs.SlotLemmas.{AreSame, nacks_at-of, slots_of-same}

-- this owner's list becomes this one
module _ {S : Type 0} (owner : List ℕ) (old new : HashMap (List ℕ) (Laid ℕ) S) (slots : Laid ℕ) (updates : Updates is_same_name old new owner (Some slots)) where
  at_key : (other : List ℕ) → is_same_name owner other ≡ true → get is_same_name new other ≡ Some slots
  at_key other e = ap (get is_same_name new) (sym ((bytes_decides owner other).0 e)) ∙ updates.1

  pub KeepsSlots-update : items_of slots ≡ slots_by old owner → spare_by old owner ≤ slots.room → KeepsSlots old new
  KeepsSlots-update still le = record { slots = λ other. kept other (is_same_name owner other) refl; spare = λ other. spared other (is_same_name owner other) refl }
    where
      kept : (other : List ℕ) (test : Bool) → is_same_name owner other ≡ test → slots_by new other ≡ slots_by old other
      kept other true e = ap slots_in (at_key other e) ∙ still ∙ ap (slots_by old) ((bytes_decides owner other).0 e)
      kept other false e = ap slots_in (updates.2 other e)

      spared : (other : List ℕ) (test : Bool) → is_same_name owner other ≡ test → spare_by old other ≤ spare_by new other
      spared other true e = omega (arith, ap spare_in (at_key other e), ap (spare_by old) ((bytes_decides owner other).0 e))
      spared other false e = omega (arith, ap spare_in (updates.2 other e))

-- each owner's slots find the room that was reserved, still
module _ {S : Type 0} (held new : HashMap (List ℕ) (Laid ℕ) S) (owner : List ℕ) (given : List ℕ) (rooms : List Room) (spared : HasSpare held rooms) where
  pub HasSpare-used : (left : List Room) → Gives owner given (spare_by held owner - 1) held new → UsesRoom owner rooms left → HasSpare new left
  HasSpare-used left gives uses other = by (is_same_name owner other) refl
    where
      by : (test : Bool) → is_same_name owner other ≡ test → room_left other left ≤ spare_by new other
      by true e = subst (λ (o : List ℕ). room_left o left ≤ spare_by new o) ((bytes_decides owner other).0 e) (omega (arith, gives.spare, uses.used, spared owner))
      by false e = omega (arith, spared other, ap spare_in (gives.others other e), uses.others other (λ same. absurd (let both = sym e ∙ (bytes_decides owner other).1 (sym same) in cc)))

  pub HasSpare-given : (room : ℕ) → Gives owner given room held new → room_left owner rooms ≤ room → HasSpare new rooms
  HasSpare-given room gives le other = by (is_same_name owner other) refl
    where
      by : (test : Bool) → is_same_name owner other ≡ test → room_left other rooms ≤ spare_by new other
      by true e = subst (λ (o : List ℕ). room_left o rooms ≤ spare_by new o) ((bytes_decides owner other).0 e) (omega (arith, gives.spare, le))
      by false e = omega (arith, spared other, ap spare_in (gives.others other e))

-- the slots that the map has by owner
module _ {S : Type 0} (held : HashMap (List ℕ) (Laid ℕ) S) (slab : Slab Nack) (slots : List ℕ) (indexed : IsIndexed held slab slots) where
  -- their entries, which rise as all do
  pub nacks_at-by : (owner : List ℕ) → nacks_at slab (slots_by held owner) ≡ owned_by owner (nacks_at slab slots)
  nacks_at-by owner = ap (nacks_at slab) (indexed owner) ∙ nacks_at-of slab slots owner

  pub AreRising-by : (owner : List ℕ) → AreRising (nacks_at slab slots) → AreRising (nacks_at slab (slots_by held owner))
  AreRising-by owner rising = subst AreRising (sym (nacks_at-by owner)) (AreRising-filter (λ (e : Nack). is_same_name e.owner owner) (nacks_at slab slots) rising)

  pub has_id-by : (owner : List ℕ) (id : Id) → has_id id (nacks_at slab slots) ≡ false → has_id id (nacks_at slab (slots_by held owner)) ≡ false
  has_id-by owner id fresh = ap (has_id id) (nacks_at-by owner) ∙ has_id-filter (λ (e : Nack). is_same_name e.owner owner) id (nacks_at slab slots) fresh

  pub IsIndexed-same : (new : Slab Nack) → AreSame slab new slots → IsIndexed held new slots
  IsIndexed-same new same owner = indexed owner ∙ sym (slots_of-same slab new slots same owner)

  module _ (rising : AreRising (nacks_at slab slots)) (slot : ℕ) (now : HashMap (List ℕ) (Laid ℕ) S) where
    abbrev nack : Nack
    nack = nack_at slab slot

    abbrev is_of : List ℕ → ℕ → Bool
    is_of owner s = is_same_name (nack_at slab s).owner owner

    pub IsIndexed-taken : (i : ℕ) → slice_get slots i ≡ Some slot → TakesSlot slot slab held now → IsIndexed now slab (slots_without (nack_at slab slot).id slab slots)
    IsIndexed-taken i here takes owner = by (is_same_name nack.owner owner) refl
      where
        others : ℕ → Bool
        others s = not (is_same_id (nack_at slab s).id nack.id)

        there : slots_by now nack.owner ≡ slots_of nack.owner slab (slots_without nack.id slab slots)
        there = takes.slots ∙ ap (filter others) (indexed nack.owner) ∙ filter-filter others (is_of nack.owner) slots

        by : (test : Bool) → is_same_name nack.owner owner ≡ test → slots_by now owner ≡ slots_of owner slab (slots_without nack.id slab slots)
        by true e = subst (λ (o : List ℕ). slots_by now o ≡ slots_of o slab (slots_without nack.id slab slots)) ((bytes_decides nack.owner owner).0 e) there
        by false e =
            ap slots_in (takes.others owner e)
            ∙ indexed owner
            ∙ sym (filter-remove_no (is_of owner) slots i slot here e)
            ∙ ap (filter (is_of owner)) (removed (nack_at slab) nack.id slots i slot rising here refl)

    pub IsIndexed-put : has_id (nack_at slab slot).id (nacks_at slab slots) ≡ false → PutsSlot slot slab held now → IsIndexed now slab (slots_with slot slab slots)
    IsIndexed-put fresh puts owner = by (is_same_name nack.owner owner) refl
      where
        before : ℕ → Bool
        before o = is_below (nack_at slab o).id nack.id

        behind : ℕ → Bool
        behind o = is_below nack.id (nack_at slab o).id

        split : slots_of nack.owner slab (slots_with slot slab slots) ≡ slots_with slot slab (slots_of nack.owner slab slots)
        split =
            let p : ℕ → Bool = is_of nack.owner in
            filter-append p (filter before slots) (slot ∷ filter behind slots)
            ∙ ap (λ (l : List ℕ). filter p (filter before slots) ++ l) (filter-first_yes p slot (filter behind slots) ((bytes_decides nack.owner nack.owner).1 refl))
            ∙ ap (λ (l : List ℕ). l ++ slot ∷ filter p (filter behind slots)) (filter-filter p before slots)
            ∙ ap (λ (l : List ℕ). filter before (filter p slots) ++ slot ∷ l) (filter-filter p behind slots)

        there : slots_by now nack.owner ≡ slots_of nack.owner slab (slots_with slot slab slots)
        there = puts.slots ∙ ap (slots_with slot slab) (indexed nack.owner) ∙ sym split

        by : (test : Bool) → is_same_name nack.owner owner ≡ test → slots_by now owner ≡ slots_of owner slab (slots_with slot slab slots)
        by true e = subst (λ (o : List ℕ). slots_by now o ≡ slots_of o slab (slots_with slot slab slots)) ((bytes_decides nack.owner owner).0 e) there
        by false e =
            ap slots_in (puts.others owner e)
            ∙ indexed owner
            ∙ sym (filter-insert_no (is_of owner) slots (count_by before slots) slot e)
            ∙ ap (filter (is_of owner)) (inserted (nack_at slab) slots slot rising fresh)

  pub IsIndexed-without_owner : (now : HashMap (List ℕ) (Laid ℕ) S) (owner : List ℕ) (room : ℕ) → Gives owner [] room held now → IsIndexed now slab (slots_without_owner owner slab slots)
  IsIndexed-without_owner now owner room gives other = by (is_same_name owner other) refl
    where
      is_of : List ℕ → ℕ → Bool
      is_of owner s = is_same_name (nack_at slab s).owner owner

      none : (ss : List ℕ) → slots_of owner slab (slots_without_owner owner slab ss) ≡ []
      none [] = refl
      none (s ∷ ss) = by (is_of owner s) refl (none ss)
        where
          by : (test : Bool) → is_of owner s ≡ test → slots_of owner slab (slots_without_owner owner slab ss) ≡ [] → slots_of owner slab (cond (not test) (s ∷ slots_without_owner owner slab ss) (slots_without_owner owner slab ss)) ≡ []
          by true e rest = rest
          by false e rest = filter-first_no (is_of owner) s (slots_without_owner owner slab ss) e ∙ rest

      same : is_same_name owner other ≡ false → (ss : List ℕ) → slots_of other slab (slots_without_owner owner slab ss) ≡ slots_of other slab ss
      same apart [] = refl
      same apart (s ∷ ss) = by (is_of owner s) refl (same apart ss)
        where
          by : (test : Bool) → is_of owner s ≡ test → slots_of other slab (slots_without_owner owner slab ss) ≡ slots_of other slab ss → slots_of other slab (cond (not test) (s ∷ slots_without_owner owner slab ss) (slots_without_owner owner slab ss)) ≡ slots_of other slab (s ∷ ss)
          by true e rest =
              let its : is_of other s ≡ false = ap (λ (o : List ℕ). is_same_name o other) ((bytes_decides (nack_at slab s).owner owner).0 e) ∙ apart in
              rest ∙ sym (filter-first_no (is_of other) s ss its)
          by false e rest = ap (λ (l : List ℕ). cond (is_of other s) (s ∷ l) l) rest

      by : (test : Bool) → is_same_name owner other ≡ test → slots_by now other ≡ slots_of other slab (slots_without_owner owner slab slots)
      by true e = subst (λ (o : List ℕ). slots_by now o ≡ slots_of o slab (slots_without_owner owner slab slots)) ((bytes_decides owner other).0 e) (gives.slots ∙ sym (none slots))
      by false e = ap slots_in (gives.others other e) ∙ indexed other ∙ sym (same e slots)
