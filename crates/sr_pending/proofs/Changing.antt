-- An element that changes in its block, and blocks that lose the entries of an owner.
use Rattle.std.proofs.Common.{◌≡◌, ℕ, zero, suc, ◌+◌, ◌-◌, ◌<◌, ◌≤◌, Bool, true, false, cond, not, List, [], ◌∷◌, ◌++◌, length, get_or, take, map, set, filter, Some, slice_get, refl, ap, sym, subst, ◌∙◌, arith}
use Rattle.std.proofs.lemmas.List.{append_assoc, length-append, length-map, set-append_left, set-append_right}
use Rattle.std.proofs.lemmas.List.Elements.{All-weaker, filter-append, filter_passes}
use Rattle.std.proofs.lemmas.List.Filters.{length-filter_both}
use Rattle.std.specs.VecDeque.{deque_items}
use Rattle.std.specs.declared.collections.VecDeque.{VecDeque}
use Rattle.sr_pending.specs.declared.blocks.Place.{Place}
use Rattle.sr_pending.specs.steps.Blocks.{AreFilled, IsIn, Laid, at_of, held_in, items_at, items_of}
use Rattle.sr_pending.proofs.Showing.{laid, shown-at, shown-items, slice_get-left, slice_get-right, start-behind}

pub set-behind : {X : Type 0} (a b : List X) (n : ℕ) (x : X) → set (a ++ b) (length a + n) x ≡ a ++ set b n x
set-behind a b n x =
    let less : length a + n - length a ≡ n = omega arith in
    set-append_right a b (length a) (length a + n) x refl (omega arith) ∙ ap (λ m. a ++ set b m x) less

-- there is one at a place before the end
pub some-at : {X : Type 0} (xs : List X) (i : ℕ) → i < length xs → (x : X) × (slice_get xs i ≡ Some x)
some-at [] i lt = absurd (omega arith)
some-at (x ∷ xs) zero lt = (x, refl)
some-at (x ∷ xs) (suc i) lt = some-at xs i (omega arith)

module _ {T Z : Type 0} where
  -- another element in a block
  pub changed : (blocks : List (VecDeque T Z)) (i : ℕ) (was is : VecDeque T Z) (at : ℕ) (x : T) (rest : List T) → i < length blocks → was ≡ get_or blocks i was → at < length was.items → is.items ≡ set was.items at x → held_in (set blocks i is) ++ rest ≡ set (held_in blocks ++ rest) (length (held_in (take i blocks)) + at) x
  changed [] i was is at x rest within read lt put = absurd (omega arith)
  changed (d ∷ ds) zero was is at x rest within read lt put =
      let first : is.items ≡ set d.items at x = rw read at put in
      let short : at < length d.items = rw read at lt in
      let start : 0 + at ≡ at = omega arith in
      append_assoc is.items (held_in ds) rest
      ∙ ap (λ (l : List T). l ++ (held_in ds ++ rest)) first
      ∙ sym (set-append_left d.items (held_in ds ++ rest) at x short)
      ∙ ap (λ (l : List T). set l at x) (sym (append_assoc d.items (held_in ds) rest))
      ∙ ap (λ (n : ℕ). set (held_in (d ∷ ds) ++ rest) n x) (sym start)
  changed (d ∷ ds) (suc i) was is at x rest within read lt put =
      let far : length (d.items ++ held_in (take i ds)) + at ≡ length d.items + (length (held_in (take i ds)) + at) = let l = length-append d.items (held_in (take i ds)) in omega arith in
      append_assoc d.items _ _
      ∙ ap (λ (l : List T). d.items ++ l) (changed ds i was is at x rest (omega arith) read lt put)
      ∙ sym (set-behind d.items (held_in ds ++ rest) (length (held_in (take i ds)) + at) x)
      ∙ ap (λ (l : List T). set l (length d.items + (length (held_in (take i ds)) + at)) x) (sym (append_assoc d.items (held_in ds) rest))
      ∙ ap (λ (n : ℕ). set (held_in (d ∷ ds) ++ rest) n x) (sym far)

  -- the element at a place of a block
  pub held-get : (blocks : List (VecDeque T Z)) (i at : ℕ) (rest : List T) → i < length blocks → at < length (items_at i blocks) → slice_get (held_in blocks ++ rest) (length (held_in (take i blocks)) + at) ≡ slice_get (items_at i blocks) at
  held-get [] i at rest within lt = absurd (omega arith)
  held-get (d ∷ ds) zero at rest within lt =
      let start : 0 + at ≡ at = omega arith in
      ap (λ (n : ℕ). slice_get ((d.items ++ held_in ds) ++ rest) n) start
      ∙ ap (λ (l : List T). slice_get l at) (append_assoc d.items (held_in ds) rest)
      ∙ slice_get-left d.items (held_in ds ++ rest) at lt
  held-get (d ∷ ds) (suc i) at rest within lt =
      let far : length (d.items ++ held_in (take i ds)) + at ≡ length d.items + (length (held_in (take i ds)) + at) = let l = length-append d.items (held_in (take i ds)) in omega arith in
      ap (λ (n : ℕ). slice_get ((d.items ++ held_in ds) ++ rest) n) far
      ∙ ap (λ (l : List T). slice_get l (length d.items + (length (held_in (take i ds)) + at))) (append_assoc d.items (held_in ds) rest)
      ∙ slice_get-right d.items (held_in ds ++ rest) (length (held_in (take i ds)) + at)
      ∙ held-get ds i at rest (omega arith) lt

  -- what is done to the parts at a place is done to what is seen
  pub shown-both : (closed : List (VecDeque T Z)) (tail : List T) (room : ℕ) (now : Laid T) → laid closed tail room ≡ now → (place : Place) {R : Type 0} (f : List T → ℕ → R) → f (held_in closed ++ tail) (length (held_in (take place.block closed)) + place.at) ≡ f (items_of now) (at_of place now)
  shown-both closed tail room now seen place f =
      ap (λ (l : List T). f l (length (held_in (take place.block closed)) + place.at)) (sym (shown-items closed tail room))
      ∙ ap (λ (n : ℕ). f (items_of (laid closed tail room)) n) (sym (shown-at closed tail room place))
      ∙ ap (λ (l : Laid T). f (items_of l) (at_of place l)) seen

  -- a place in a closed block is one of an element there
  pub shown-short : (closed : List (VecDeque T Z)) (tail : List T) (room : ℕ) (now : Laid T) → laid closed tail room ≡ now → (place : Place) → IsIn place now → place.block < length closed → place.at < length (items_at place.block closed)
  shown-short closed tail room now seen place within lt =
      let P : Laid T → Type 0 = λ l. place.block < length l.closed → place.at < length (get_or l.closed place.block []) in
      let many : length (map deque_items closed) ≡ length closed = length-map closed deque_items in
      subst P (sym seen) within.in_closed (omega (arith, many))

  pub shown-here : (closed : List (VecDeque T Z)) (tail : List T) (room : ℕ) (now : Laid T) → laid closed tail room ≡ now → (place : Place) → IsIn place now → place.block < length closed → (x : T) → slice_get (items_of now) (at_of place now) ≡ Some x → slice_get (items_at place.block closed) place.at ≡ Some x
  shown-here closed tail room now seen place within lt x here =
      sym (held-get closed place.block place.at tail lt (shown-short closed tail room now seen place within lt))
      ∙ shown-both closed tail room now seen place (λ (l : List T) (n : ℕ). slice_get l n)
      ∙ here

  pub shown-tail : (closed : List (VecDeque T Z)) (tail : List T) (room : ℕ) (now : Laid T) → laid closed tail room ≡ now → (place : Place) → length closed ≤ place.block → (x : T) → slice_get (items_of now) (at_of place now) ≡ Some x → slice_get tail place.at ≡ Some x
  shown-tail closed tail room now seen place past x here =
      sym (slice_get-right (held_in closed) tail place.at)
      ∙ ap (λ (n : ℕ). slice_get (held_in closed ++ tail) n) (sym (start-behind closed tail room now seen place past))
      ∙ shown-both closed tail room now seen place (λ (l : List T) (n : ℕ). slice_get l n)
      ∙ here

-- without the empty blocks the elements are the same
module _ {T Z : Type 0} (p : VecDeque T Z → Bool) where
  pub held-filter : ((d : VecDeque T Z) → p d ≡ false → d.items ≡ []) → (blocks : List (VecDeque T Z)) → held_in (filter p blocks) ≡ held_in blocks
  held-filter empty [] = refl
  held-filter empty (d ∷ ds) = by (p d) refl (held-filter empty ds)
    where
      by : (test : Bool) → p d ≡ test → held_in (filter p ds) ≡ held_in ds → held_in (cond test (d ∷ filter p ds) (filter p ds)) ≡ d.items ++ held_in ds
      by true e rest = ap (λ (l : List T). d.items ++ l) rest
      by false e rest = rest ∙ ap (λ (l : List T). l ++ held_in ds) (sym (empty d e))

  pub filled-filter : ((d : VecDeque T Z) → p d ≡ true → 0 < length d.items) → (blocks : List (VecDeque T Z)) → AreFilled (filter p blocks)
  filled-filter full blocks = All-weaker (λ (d : VecDeque T Z). p d ≡ true) (λ (d : VecDeque T Z). 0 < length d.items) full (filter p blocks) (filter_passes p blocks)

-- the first n blocks have kept those that pass alone, and the others are as they were
abbrev pub Kept : {T Z : Type 0} → (T → Bool) → ℕ → List (VecDeque T Z) → List (VecDeque T Z) → Type 0
Kept p zero old new = new ≡ old
Kept p (suc n) [] new = ⊥
Kept p (suc n) (o ∷ os) [] = ⊥
Kept p (suc n) (o ∷ os) (d ∷ ds) = (d.items ≡ filter p o.items) × Kept p n os ds

module _ {T Z : Type 0} (p : T → Bool) where
  pub Kept-more : (n : ℕ) (old new : List (VecDeque T Z)) (was is : VecDeque T Z) → Kept p n old new → n < length new → was ≡ get_or new n was → is.items ≡ filter p was.items → Kept p (suc n) old (set new n is)
  Kept-more zero old [] was is kept within read less = absurd (omega arith)
  Kept-more zero [] (d ∷ ds) was is kept within read less = absurd (cc)
  Kept-more zero (o ∷ os) (d ∷ ds) was is kept within read less =
      let same : d ≡ o = cc in
      (less ∙ ap (λ (e : VecDeque T Z). filter p e.items) (read ∙ same), cc)
  Kept-more (suc n) [] new was is kept within read less = absurd kept
  Kept-more (suc n) (o ∷ os) [] was is kept within read less = absurd kept
  Kept-more (suc n) (o ∷ os) (d ∷ ds) was is kept within read less = (kept.0, Kept-more n os ds was is kept.1 (omega arith) read less)

  pub Kept-length : (n : ℕ) (old new : List (VecDeque T Z)) → Kept p n old new → length new ≡ length old
  Kept-length zero old new kept = ap (λ (l : List (VecDeque T Z)). length l) kept
  Kept-length (suc n) [] new kept = absurd kept
  Kept-length (suc n) (o ∷ os) [] kept = absurd kept
  Kept-length (suc n) (o ∷ os) (d ∷ ds) kept = ap suc (Kept-length n os ds kept.1)

  pub Kept-all : (n : ℕ) (old new : List (VecDeque T Z)) → Kept p n old new → length old ≤ n → held_in new ≡ filter p (held_in old)
  Kept-all zero [] new kept all = ap (λ (l : List (VecDeque T Z)). held_in l) kept
  Kept-all zero (o ∷ os) new kept all = absurd (omega arith)
  Kept-all (suc n) [] new kept all = absurd kept
  Kept-all (suc n) (o ∷ os) [] kept all = absurd kept
  Kept-all (suc n) (o ∷ os) (d ∷ ds) kept all =
      ap (λ (l : List T). l ++ held_in ds) kept.0
      ∙ ap (λ (l : List T). filter p o.items ++ l) (Kept-all n os ds kept.1 (omega arith))
      ∙ sym (filter-append p o.items (held_in os))

  pub kept-both : (closed new : List (VecDeque T Z)) (tail last : List T) → held_in new ≡ filter p (held_in closed) → last ≡ filter p tail → held_in new ++ last ≡ filter p (held_in closed ++ tail)
  kept-both closed new tail last before behind =
      ap (λ (l : List T). l ++ last) before
      ∙ ap (λ (l : List T). filter p (held_in closed) ++ l) behind
      ∙ sym (filter-append p (held_in closed) tail)

-- those that pass and the others are all
pub both-parts : {X : Type 0} (p : X → Bool) (xs : List X) → length (filter p xs) + length (filter (λ x. not (p x)) xs) ≡ length xs
both-parts p xs = length-filter_both p (λ x. not (p x)) (λ x. refl) xs
