-- What a cursor over slots lists, and what is found in one.
use Rattle.std.proofs.Common.{◌≡◌, ℕ, Bool, true, List, [], ◌∷◌, filter, map, get_or, slice_get, Option, Some, None, refl, ap, sym, subst, ◌∙◌}
use Rattle.std.specs.List.{All}
use Rattle.std.specs.Option.{option_map}
use Rattle.std.proofs.lemmas.List.Elements.{All-filter}
use Rattle.std.proofs.lemmas.Option.{get_or_from_slice_get, slice_get-map, slice_get_within}
use Rattle.slab.specs.Slab.{Slab, ContainsKey}
use Rattle.sr_ids.specs.declared.id.Id.{Id}
use Rattle.sr_pending.specs.declared.nack.Nack.{Nack}
use Rattle.sr_pending.specs.Pending.{AreRising, has_id, is_same_name, nack_with, owned_by, owned_by_named}
use Rattle.sr_pending.specs.steps.Search.{IsPlace}
use Rattle.sr_pending.specs.steps.Slots.{AreTaken, nack_at, nacks_at, slots_of}
use Rattle.sr_pending.proofs.SearchLemmas.{has_id-place, nack_with-place}
use Rattle.sr_pending.proofs.FilterLemmas.{filter-filter, filter-map}
use Rattle.sr_pending.proofs.SlotLemmas.{nacks_at-of}

module _ (slab : Slab Nack) (slots : List ℕ) (taken : AreTaken slab slots) where
  -- the slots that pass a test, and those of an owner
  module _ (test : Id → Bool) (rest : List ℕ) where
    abbrev passes : ℕ → Bool
    passes s = test (nack_at slab s).id

    pub listed-all : rest ≡ filter (λ s. test (nack_at slab s).id) slots → nacks_at slab rest ≡ filter (λ (x : Nack). test x.id) (nacks_at slab slots)
    listed-all is = ap (nacks_at slab) is ∙ sym (filter-map (nack_at slab) (λ (x : Nack). test x.id) slots)

    pub taken-all : rest ≡ filter (λ s. test (nack_at slab s).id) slots → AreTaken slab rest
    taken-all is = subst (λ (l : List ℕ). AreTaken slab l) (sym is) (All-filter passes (λ (s : ℕ). ContainsKey slab s) slots taken)

    module _ (owner mine : List ℕ) (indexed : mine ≡ slots_of owner slab slots) (is : rest ≡ filter (λ s. test (nack_at slab s).id) mine) where
      abbrev owned : ℕ → Bool
      owned s = is_same_name (nack_at slab s).owner owner

      both : rest ≡ filter owned (filter passes slots)
      both = is ∙ ap (filter passes) indexed ∙ filter-filter passes owned slots

      pub listed-by : nacks_at slab rest ≡ owned_by owner (filter (λ (x : Nack). test x.id) (nacks_at slab slots))
      listed-by =
          ap (nacks_at slab) both
          ∙ nacks_at-of slab (filter passes slots) owner
          ∙ ap (owned_by owner) (sym (filter-map (nack_at slab) (λ (x : Nack). test x.id) slots))

      pub taken-by : AreTaken slab rest
      taken-by =
          subst (λ (l : List ℕ). AreTaken slab l) (sym both)
          (All-filter owned (λ (s : ℕ). ContainsKey slab s) (filter passes slots) (All-filter passes (λ (s : ℕ). ContainsKey slab s) slots taken))

  -- one that was found has an entry
  pub taken-found : (slot place : ℕ) → slice_get slots place ≡ Some slot → ContainsKey slab slot
  taken-found slot place here =
      subst (λ (s : ℕ). ContainsKey slab s) (get_or_from_slice_get slots place slot slot here) (taken place slot (slice_get_within slots place slot here))

module _ (slab : Slab Nack) (slots : List ℕ) (id : Id) (slot place : ℕ) (at : IsPlace id slab slots slot place) where
  place-nacks : slice_get (nacks_at slab slots) place ≡ Some (nack_at slab slot)
  place-nacks = slice_get-map (nack_at slab) slots place ∙ ap (option_map (nack_at slab)) at.here

  pub pending-found : has_id id (nacks_at slab slots) ≡ true
  pending-found = has_id-place id (nacks_at slab slots) place (nack_at slab slot) place-nacks at.same

  pub nack-found : AreRising (nacks_at slab slots) → nack_with id (nacks_at slab slots) ≡ Some (nack_at slab slot)
  nack-found rising = nack_with-place id (nacks_at slab slots) place (nack_at slab slot) rising place-nacks at.same

-- where no owner is named, all are wanted
pub owned_by_named-none : (xs : List Nack) → owned_by_named None xs ≡ xs
owned_by_named-none [] = refl
owned_by_named-none (x ∷ xs) = ap (λ (l : List Nack). x ∷ l) (owned_by_named-none xs)
