-- Slots whose entries are the same in two slabs, and lists of slots in the order of their entries.
use Rattle.std.proofs.Common.{◌≡◌, ◌≢◌, ℕ, zero, suc, ◌+◌, ◌<◌, Bool, true, false, cond, not, List, [], ◌∷◌, ◌++◌, length, get_or, map, filter, slice_get, Option, Some, None, inl, inr, refl, ap, subst, sym, ◌∙◌, arith}
use Rattle.std.specs.List.{All, count_by, insert}
use Rattle.std.specs.Option.{IsSome, option_map}
use Rattle.std.proofs.lemmas.Bool.{cases_eq}
use Rattle.std.proofs.lemmas.List.{map-append}
use Rattle.std.proofs.lemmas.List.Edits.{length-insert}
use Rattle.std.proofs.lemmas.List.Sums.{count_by-le-length}
use Rattle.std.proofs.lemmas.List.Elements.{All-append, All-cons, All-filter, All-nil, All-weaker, filter_passes}
use Rattle.std.proofs.lemmas.Option.{slice_get-map}
use Rattle.slab.specs.Slab.{Slab, ContainsKey, Updates, get}
use Rattle.sr_ids.specs.declared.id.Id.{Id}
use Rattle.sr_ids.specs.{IsBelow}
use Rattle.sr_ids.proofs.IdLemmas.{IsBelow-one_way}
use Rattle.sr_pending.specs.declared.nack.Nack.{Nack}
use Rattle.sr_ids.specs.{is_below, is_same_id}
use Rattle.sr_pending.specs.Pending.{AreAbove, AreRising, has_id, is_same_name, owned_by, with_nack, without, without_owner}
use Rattle.sr_pending.specs.steps.Slots.{AreDistinct, AreTaken, nack_at, nack_or, nacks_at, slots_of, slots_with, slots_without, slots_without_owner}
use Rattle.sr_pending.proofs.NackLemmas.{is_same_id-refl}
use Rattle.sr_pending.proofs.SearchLemmas.{before_place, has_id-above}
use Rattle.sr_pending.proofs.ChangeLemmas.{changed_at, map-none}
use Rattle.sr_pending.proofs.FilterLemmas.{filter-agree, filter-map, map-agree}
use Rattle.sr_pending.proofs.PlaceLemmas.{inserted}

-- what is done to slots is done to their entries
module _ (slab : Slab Nack) (slots : List ℕ) where
  pub nacks_at-of : (owner : List ℕ) → nacks_at slab (slots_of owner slab slots) ≡ owned_by owner (nacks_at slab slots)
  nacks_at-of owner = sym (filter-map (nack_at slab) (λ (e : Nack). is_same_name e.owner owner) slots)

  pub nacks_at-without_owner : (owner : List ℕ) → nacks_at slab (slots_without_owner owner slab slots) ≡ without_owner owner (nacks_at slab slots)
  nacks_at-without_owner owner = sym (filter-map (nack_at slab) (λ (e : Nack). not (is_same_name e.owner owner)) slots)

  pub nacks_at-without : (id : Id) → nacks_at slab (slots_without id slab slots) ≡ without id (nacks_at slab slots)
  nacks_at-without id = sym (filter-map (nack_at slab) (λ (e : Nack). not (is_same_id e.id id)) slots)

  pub nacks_at-with : (slot : ℕ) → nacks_at slab (slots_with slot slab slots) ≡ with_nack (nack_at slab slot) (nacks_at slab slots)
  nacks_at-with slot =
      let nack = nack_at slab slot in
      let before : List ℕ = filter (λ o. is_below (nack_at slab o).id nack.id) slots in
      let behind : List ℕ = filter (λ o. is_below nack.id (nack_at slab o).id) slots in
      map-append (nack_at slab) before (slot ∷ behind)
      ∙ ap (λ (l : List Nack). l ++ nack ∷ map (nack_at slab) behind) (sym (filter-map (nack_at slab) (λ (e : Nack). is_below e.id nack.id) slots))
      ∙ ap (λ (l : List Nack). filter (λ (e : Nack). is_below e.id nack.id) (nacks_at slab slots) ++ nack ∷ l) (sym (filter-map (nack_at slab) (λ (e : Nack). is_below nack.id e.id) slots))

  -- each slot with an entry, and one more
  pub AreTaken-with : (slot : ℕ) → ContainsKey slab slot → AreTaken slab slots → AreTaken slab (slots_with slot slab slots)
  AreTaken-with slot here taken =
      let P : ℕ → Type 0 = λ s. ContainsKey slab s in
      let nack = nack_at slab slot in
      All-append P (filter (λ o. is_below (nack_at slab o).id nack.id) slots) (slot ∷ filter (λ o. is_below nack.id (nack_at slab o).id) slots) (All-filter (λ o. is_below (nack_at slab o).id nack.id) P slots taken) (All-cons P slot (filter (λ o. is_below nack.id (nack_at slab o).id) slots) here (All-filter (λ o. is_below nack.id (nack_at slab o).id) P slots taken))

  pub length-with : (slot : ℕ) → AreRising (nacks_at slab slots) → has_id (nack_at slab slot).id (nacks_at slab slots) ≡ false → length (slots_with slot slab slots) ≡ length slots + 1
  length-with slot rising fresh =
      let before : ℕ → Bool = λ o. is_below (nack_at slab o).id (nack_at slab slot).id in
      sym (ap (λ (l : List ℕ). length l) (inserted (nack_at slab) slots slot rising fresh))
      ∙ length-insert slots (count_by before slots) slot (omega (arith, count_by-le-length before slots))

-- entries that rise are in slots of which none is there twice
apart-above : (slab : Slab Nack) (slot : ℕ) (slots : List ℕ) → AreAbove (nack_at slab slot).id (nacks_at slab slots) → All (λ (other : ℕ). other ≢ slot) slots
apart-above slab slot [] above = All-nil (λ (other : ℕ). other ≢ slot)
apart-above slab slot (o ∷ os) above =
    let id = (nack_at slab slot).id in
    All-cons (λ (other : ℕ). other ≢ slot) o os (λ same. let self : IsBelow id id = subst (λ (s : ℕ). IsBelow id (nack_at slab s).id) same above.0 in IsBelow-one_way id id self self) (apart-above slab slot os above.1)

pub AreDistinct-rising : (slab : Slab Nack) (slots : List ℕ) → AreRising (nacks_at slab slots) → AreDistinct slots
AreDistinct-rising slab [] rising = tt
AreDistinct-rising slab (s ∷ ss) rising = (apart-above slab s ss rising.0, AreDistinct-rising slab ss rising.1)

-- two slabs that have the same entries in these slots
module _ (old new : Slab Nack) (slots : List ℕ) where
  abbrev pub AreSame : Type 0
  AreSame = All (λ (slot : ℕ). get new slot ≡ get old slot) slots

  pub nacks_at-same : AreSame → nacks_at new slots ≡ nacks_at old slots
  nacks_at-same same =
      map-agree (nack_at old) (nack_at new) slots (All-weaker (λ (s : ℕ). get new s ≡ get old s) (λ (s : ℕ). nack_at new s ≡ nack_at old s) (λ s e. ap nack_or e) slots same)

  pub slots_of-same : AreSame → (owner : List ℕ) → slots_of owner new slots ≡ slots_of owner old slots
  slots_of-same same owner =
      let p : ℕ → Bool = λ s. is_same_name (nack_at old s).owner owner in
      let q : ℕ → Bool = λ s. is_same_name (nack_at new s).owner owner in
      filter-agree p q slots (All-weaker (λ (s : ℕ). get new s ≡ get old s) (λ (s : ℕ). q s ≡ p s) (λ s e. ap (λ (o : Option Nack). is_same_name (nack_or o).owner owner) e) slots same)

  pub AreTaken-same : AreSame → AreTaken old slots → AreTaken new slots
  AreTaken-same same taken k d within = subst (λ (o : Option Nack). IsSome o) (sym (same k d within)) (taken k d within)

  -- where one slot alone changed, and is not among them
  pub AreSame-updated : (slot : ℕ) (is : Option Nack) → Updates old new slot is → All (λ (other : ℕ). other ≢ slot) slots → AreSame
  AreSame-updated slot is updates apart = All-weaker (λ (other : ℕ). other ≢ slot) (λ (s : ℕ). get new s ≡ get old s) (λ s no. updates.others s no) slots apart

-- a slot that is empty is not among those with an entry
pub apart-empty : (slab : Slab Nack) (slot : ℕ) (slots : List ℕ) → get slab slot ≡ None → AreTaken slab slots → All (λ (other : ℕ). other ≢ slot) slots
apart-empty slab slot slots empty taken = All-weaker (λ (s : ℕ). ContainsKey slab s) (λ (s : ℕ). s ≢ slot) (λ s here same. by s here (ap (get slab) same ∙ empty)) slots taken
  where
    by : (s : ℕ) → ContainsKey slab s → get slab s ≡ None → ⊥
    by s here none = let no = subst (λ (o : Option Nack). IsSome o) none here in cc

-- the slot of an entry is not among those of other ids
pub apart-without : (slab : Slab Nack) (slot : ℕ) (slots : List ℕ) → All (λ (other : ℕ). other ≢ slot) (slots_without (nack_at slab slot).id slab slots)
apart-without slab slot slots =
    let id = (nack_at slab slot).id in
    let p : ℕ → Bool = λ s. not (is_same_id (nack_at slab s).id id) in
    All-weaker (λ (s : ℕ). p s ≡ true) (λ (s : ℕ). s ≢ slot) (λ s passes same. let own : is_same_id (nack_at slab s).id id ≡ true = subst (λ (o : ℕ). is_same_id (nack_at slab o).id id ≡ true) (sym same) (is_same_id-refl id) in let no : not true ≡ true = sym (ap not own) ∙ passes in cc) (filter p slots) (filter_passes p slots)

-- the entry in one slot changes, and keeps its id
module _ (old new : Slab Nack) (slot : ℕ) (id : Id) (change : Nack → Nack) (updates : Updates old new slot (Some (change (nack_at old slot)))) (same : (nack_at old slot).id ≡ id) where
  here-changed : nack_at new slot ≡ change (nack_at old slot)
  here-changed = ap nack_or updates.changed

  tail-same : (slots : List ℕ) → AreAbove id (nacks_at old slots) → nacks_at new slots ≡ nacks_at old slots
  tail-same slots above =
      let above_it : AreAbove (nack_at old slot).id (nacks_at old slots) = subst (λ (i : Id). AreAbove i (nacks_at old slots)) (sym same) above in
      nacks_at-same old new slots (AreSame-updated old new slots slot (Some (change (nack_at old slot))) updates (apart-above old slot slots above_it))

  pub nacks_at-changed : (slots : List ℕ) (i : ℕ) → AreRising (nacks_at old slots) → slice_get slots i ≡ Some slot → nacks_at new slots ≡ map (changed_at id change) (nacks_at old slots)
  nacks_at-changed [] i rising here = cc
  nacks_at-changed (s ∷ ss) zero rising here =
      let first : s ≡ slot = cc in
      let first_id : (nack_at old s).id ≡ id = ap (λ (o : ℕ). (nack_at old o).id) first ∙ same in
      let test : is_same_id (nack_at old s).id id ≡ true = rw first_id (is_same_id-refl id) in
      let above : AreAbove id (nacks_at old ss) = rw first_id at rising.0 in
      let is : nack_at new s ≡ change (nack_at old s) = ap (nack_at new) first ∙ here-changed ∙ ap (λ (o : ℕ). change (nack_at old o)) (sym first) in
      let rest : nacks_at new ss ≡ map (changed_at id change) (nacks_at old ss) = tail-same ss above ∙ sym (map-none id change (nacks_at old ss) (has_id-above id (nacks_at old ss) above)) in
      rw test (ap (λ (e : Nack). e ∷ nacks_at new ss) is ∙ ap (λ (l : List Nack). change (nack_at old s) ∷ l) rest)
  nacks_at-changed (s ∷ ss) (suc i) rising here =
      let there : slice_get (nacks_at old ss) i ≡ Some (nack_at old slot) = slice_get-map (nack_at old) ss i ∙ ap (option_map (nack_at old)) here in
      let test : is_same_id (nack_at old s).id id ≡ false = before_place id (nack_at old s) (nacks_at old ss) i (nack_at old slot) rising.0 there same in
      let apart : s ≢ slot = λ one. let yes : is_same_id (nack_at old s).id id ≡ true = subst (λ (o : ℕ). is_same_id (nack_at old o).id id ≡ true) (sym one) (rw same (is_same_id-refl id)) in let both = sym test ∙ yes in cc in
      let is : nack_at new s ≡ nack_at old s = ap nack_or (updates.others s apart) in
      rw test (ap (λ (e : Nack). e ∷ nacks_at new ss) is ∙ ap (λ (l : List Nack). nack_at old s ∷ l) (nacks_at-changed ss i rising.1 here))

  -- the fields that a change keeps are the same everywhere
  module _ {R : Type 0} (field : Nack → R) (keeps : field (change (nack_at old slot)) ≡ field (nack_at old slot)) where
    pub field-kept : (s : ℕ) → field (nack_at new s) ≡ field (nack_at old s)
    field-kept s =
        elim (cases_eq s slot) [
          | inl one ↦ ap (λ (o : ℕ). field (nack_at new o)) one ∙ ap field here-changed ∙ keeps ∙ ap (λ (o : ℕ). field (nack_at old o)) (sym one)
          | inr apart ↦ ap (λ (o : Option Nack). field (nack_or o)) (updates.others s apart)
        ]

  pub AreTaken-changed : (slots : List ℕ) → AreTaken old slots → AreTaken new slots
  AreTaken-changed slots taken = All-weaker (λ (s : ℕ). ContainsKey old s) (λ (s : ℕ). ContainsKey new s) kept slots taken
    where
      kept : (s : ℕ) → ContainsKey old s → ContainsKey new s
      kept s here =
          elim (cases_eq s slot) [
            | inl one ↦ subst (λ (o : ℕ). ContainsKey new o) (sym one) (subst (λ (o : Option Nack). IsSome o) (sym updates.changed) refl)
            | inr apart ↦ subst (λ (o : Option Nack). IsSome o) (sym (updates.others s apart)) here
          ]
