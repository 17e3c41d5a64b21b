-- Lists whose first elements pass a test and whose later ones do not: how many pass, and what lies between two places.
use Rattle.std.proofs.Common.{◌≡◌, ℕ, zero, suc, ◌-◌, ◌<◌, ◌≤◌, Bool, true, false, cond, not, ◌&&◌, List, [], ◌∷◌, length, get_or, take, drop, filter, refl, ap, sym, ◌∙◌, arith}
use Rattle.std.proofs.Math.Seq.{drop-nil, take-nil}
use Rattle.std.proofs.lemmas.List.Sums.{length-filter}
use Rattle.std.specs.List.{count_by}
use Rattle.std.specs.List.Sorted.{IsPartitionedBy, IsPartitionPoint}
pub use Rattle.sr_pending.specs.steps.Search.{Splits}

module _ {X : Type 0} (p : X → Bool) where
  pub Splits-point : (xs : List X) (i : ℕ) → i ≤ length xs → IsPartitionPoint (λ x. p x ≡ true) (λ x. p x ≡ false) xs i → Splits p xs i
  Splits-point [] i within point = omega arith
  Splits-point (x ∷ xs) zero within point =
      (point.1 0 x (omega arith) (omega arith), Splits-point xs zero (omega arith) ((λ k d low high. absurd (omega arith)), (λ k d low high. point.1 (suc k) d (omega arith) (omega arith))))
  Splits-point (x ∷ xs) (suc i) within point =
      (point.0 0 x (omega arith) (omega arith), Splits-point xs i (omega arith) ((λ k d low high. point.0 (suc k) d (omega arith) (omega arith)), (λ k d low high. point.1 (suc k) d (omega arith) (omega arith))))

  count_by-step : (x : X) (xs : List X) (test : Bool) → p x ≡ test → count_by p (x ∷ xs) ≡ length (cond test (x ∷ filter p xs) (filter p xs))
  count_by-step x xs test e = sym (length-filter p (x ∷ xs)) ∙ ap (λ (b : Bool). length (cond b (x ∷ filter p xs) (filter p xs))) e

  -- one more passes, or as many as before
  pub count_by-yes : (x : X) (xs : List X) → p x ≡ true → count_by p (x ∷ xs) ≡ suc (count_by p xs)
  count_by-yes x xs passes = count_by-step x xs true passes ∙ ap (λ (n : ℕ). suc n) (length-filter p xs)

  pub count_by-no : (x : X) (xs : List X) → p x ≡ false → count_by p (x ∷ xs) ≡ count_by p xs
  count_by-no x xs fails = count_by-step x xs false fails ∙ length-filter p xs

  -- as many pass as the place says
  pub Splits-count : (xs : List X) (i : ℕ) → Splits p xs i → count_by p xs ≡ i
  Splits-count [] i splits = sym splits
  Splits-count (x ∷ xs) zero splits = count_by-no x xs splits.0 ∙ Splits-count xs zero splits.1
  Splits-count (x ∷ xs) (suc i) splits = count_by-yes x xs splits.0 ∙ ap (λ (n : ℕ). suc n) (Splits-count xs i splits.1)

  pub Splits-none : (xs : List X) → ((k : ℕ) (d : X) → k < length xs → p (get_or xs k d) ≡ false) → Splits p xs zero
  Splits-none [] none = refl
  Splits-none (x ∷ xs) none = (none 0 x (omega arith), Splits-none xs (λ k d within. none (suc k) d (omega arith)))

  -- where those that pass come first, they end at their number
  pub Splits-counted : (xs : List X) → IsPartitionedBy p xs → Splits p xs (count_by p xs)
  Splits-counted [] first = refl
  Splits-counted (x ∷ xs) first =
      by (Splits-counted xs (λ i j d le within passes. first (suc i) (suc j) d (omega arith) (omega arith) passes)) (p x) refl
    where
      later : p x ≡ false → (k : ℕ) (d : X) → k < length xs → (test : Bool) → p (get_or xs k d) ≡ test → test ≡ false
      later fails k d within true passes = sym (sym fails ∙ first 0 (suc k) d (omega arith) (omega arith) passes)
      later fails k d within false e = refl

      by : Splits p xs (count_by p xs) → (test : Bool) → p x ≡ test → Splits p (x ∷ xs) (count_by p (x ∷ xs))
      by rest true passes = rw (count_by-yes x xs passes) (passes, rest)
      by rest false fails =
          let none = Splits-none xs (λ k d within. later fails k d within (p (get_or xs k d)) refl) in
          rw (count_by-no x xs fails ∙ Splits-count xs zero none) (fails, none)

  -- what lies behind the elements that pass
  pub drop-Splits : (xs : List X) (i : ℕ) → Splits p xs i → drop i xs ≡ filter (λ x. not (p x)) xs
  drop-Splits [] i splits = rw drop-nil
  drop-Splits (x ∷ xs) zero splits = rw splits.0 (ap (λ (l : List X). x ∷ l) (drop-Splits xs zero splits.1))
  drop-Splits (x ∷ xs) (suc i) splits = rw splits.0 (drop-Splits xs i splits.1)

-- what lies behind the elements that pass p and before those that fail q
module _ {X : Type 0} (p q : X → Bool) where
  pub filter-Splits : (xs : List X) (i j : ℕ) → Splits p xs i → Splits q xs j → filter (λ x. not (p x) && q x) xs ≡ take (j - i) (drop i xs)
  filter-Splits [] i j below upto = rw drop-nil (sym (take-nil (j - i)))
  filter-Splits (x ∷ xs) zero zero below upto = rw (below.0, upto.0) (filter-Splits xs zero zero below.1 upto.1)
  filter-Splits (x ∷ xs) zero (suc j) below upto =
      let whole : suc j - 0 ≡ suc j = omega arith in
      let rest : j - 0 ≡ j = omega arith in
      rw (below.0, upto.0, whole) (ap (λ (l : List X). x ∷ l) (rw rest at (filter-Splits xs zero j below.1 upto.1)))
  filter-Splits (x ∷ xs) (suc i) zero below upto =
      let none : 0 - suc i ≡ 0 - i = omega arith in
      rw (below.0, none) (filter-Splits xs i zero below.1 upto.1)
  filter-Splits (x ∷ xs) (suc i) (suc j) below upto =
      let rest : suc j - suc i ≡ j - i = omega arith in
      rw (below.0, rest) (filter-Splits xs i j below.1 upto.1)
