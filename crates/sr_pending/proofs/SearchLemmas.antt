-- Where binary search finds pending entries that rise: those of a range, and the one with an id.
use Rattle.std.proofs.Common.{◌≡◌, ℕ, zero, suc, ◌-◌, ◌<◌, Bool, true, false, not, ◌||◌, List, [], ◌∷◌, ◌++◌, length, get_or, take, drop, filter, slice_get, Option, Some, None, inl, inr, refl, ap, sym, ◌∙◌, arith}
use Rattle.std.proofs.lemmas.Bool.{cases_lt}
use Rattle.std.specs.List.{remove, slice_range}
use Rattle.std.proofs.lemmas.List.{take_rest}
use Rattle.std.specs.List.Sorted.{IsPartitionedBy}
use Rattle.sr_ids.specs.declared.id.Id.{Id}
use Rattle.sr_ids.specs.{IsBelow}
use Rattle.sr_ids.proofs.IdLemmas.{IsBelow-cases}
use Rattle.sr_pending.specs.declared.nack.Nack.{Nack}
use Rattle.sr_ids.specs.{is_below, is_same_id}
use Rattle.sr_pending.specs.Pending.{AreAbove, AreRising, has_id, nack_with, pending_between, without}
use Rattle.sr_pending.proofs.NackLemmas.{IsBelow-trans, is_below-true, is_below-from, is_same_id-true, is_same_id-refl, is_same_id-below, is_same_id-above, AreAbove-below, AreAbove-get}
use Rattle.sr_pending.proofs.Splitting.{Splits, Splits-counted, drop-Splits, filter-Splits}

pub AreAbove-at : (id : Id) (xs : List Nack) (j : ℕ) (d : Nack) → AreAbove id xs → j < length xs → IsBelow id (get_or xs j d).id
AreAbove-at id [] j d above within = absurd (omega arith)
AreAbove-at id (x ∷ xs) zero d above within = above.0
AreAbove-at id (x ∷ xs) (suc j) d above within = AreAbove-at id xs j d above.1 (omega arith)

pub AreRising-at : (xs : List Nack) (i j : ℕ) (d : Nack) → AreRising xs → i < j → j < length xs → IsBelow (get_or xs i d).id (get_or xs j d).id
AreRising-at [] i j d rising lt within = absurd (omega arith)
AreRising-at (x ∷ xs) i zero d rising lt within = absurd (omega arith)
AreRising-at (x ∷ xs) zero (suc j) d rising lt within = AreAbove-at x.id xs j d rising.0 (omega arith)
AreRising-at (x ∷ xs) (suc i) (suc j) d rising lt within = AreRising-at xs i j d rising.1 (omega arith) (omega arith)

pub not_is_below : (id a b : Id) → IsBelow a b → not (is_below id b) ≡ true → not (is_below id a) ≡ true
not_is_below id a b below upto = by (is_below id a) refl
  where
    by : (test : Bool) → is_below id a ≡ test → not test ≡ true
    by true e =
        let past : is_below id b ≡ true = is_below-from id b (IsBelow-trans id a b (is_below-true id a e) below) in
        rw past at upto
    by false e = refl

-- of pending entries that rise, those below an id come first
pub below_first : (xs : List Nack) (id : Id) → AreRising xs → IsPartitionedBy (λ (e : Nack). is_below e.id id) xs
below_first xs id rising i j d le within below =
    elim (cases_lt i j) [
      | inl lt ↦ is_below-from (get_or xs i d).id id (IsBelow-trans (get_or xs i d).id (get_or xs j d).id id (AreRising-at xs i j d rising lt within) (is_below-true (get_or xs j d).id id below))
      | inr ge ↦ let same : j ≡ i = omega arith in rw same at below
    ]

-- and so do those that it is not below
pub not_above_first : (xs : List Nack) (id : Id) → AreRising xs → IsPartitionedBy (λ (e : Nack). not (is_below id e.id)) xs
not_above_first xs id rising i j d le within upto =
    elim (cases_lt i j) [
      | inl lt ↦ not_is_below id (get_or xs i d).id (get_or xs j d).id (AreRising-at xs i j d rising lt within) upto
      | inr ge ↦ let same : j ≡ i = omega arith in rw same at upto
    ]

-- no nack above an id has it
pub has_id-above : (id : Id) (xs : List Nack) → AreAbove id xs → has_id id xs ≡ false
has_id-above id [] above = refl
has_id-above id (x ∷ xs) above = rw (is_same_id-above x.id id above.0) (has_id-above id xs above.1)

-- where no nack has the id, none is found, and none goes
pub has_id-not_first : (id : Id) (x : Nack) (xs : List Nack) → has_id id (x ∷ xs) ≡ false → (is_same_id x.id id ≡ false) × (has_id id xs ≡ false)
has_id-not_first id x xs none = by (is_same_id x.id id) refl
  where
    by : (test : Bool) → is_same_id x.id id ≡ test → (test ≡ false) × (has_id id xs ≡ false)
    by true e = absurd (let yes = rw e at none in cc)
    by false e = (refl, rw e at none)

pub without-none : (id : Id) (xs : List Nack) → has_id id xs ≡ false → without id xs ≡ xs
without-none id [] none = refl
without-none id (x ∷ xs) none =
    let parts = has_id-not_first id x xs none in
    rw parts.0 (ap (λ (l : List Nack). x ∷ l) (without-none id xs parts.1))

pub nack_with-none : (id : Id) (xs : List Nack) → has_id id xs ≡ false → nack_with id xs ≡ None
nack_with-none id [] none = refl
nack_with-none id (x ∷ xs) none =
    let parts = has_id-not_first id x xs none in
    rw parts.0 (nack_with-none id xs parts.1)

-- where it stands, it is found, and it alone goes
pub has_id-place : (id : Id) (xs : List Nack) (i : ℕ) (x : Nack) → slice_get xs i ≡ Some x → x.id ≡ id → has_id id xs ≡ true
has_id-place id [] i x here same = cc
has_id-place id (y ∷ ys) zero x here same =
    let first : y ≡ x = cc in
    let test : is_same_id y.id id ≡ true = rw (first, same) (is_same_id-refl id) in
    rw test
has_id-place id (y ∷ ys) (suc i) x here same = by (has_id-place id ys i x here same) (is_same_id y.id id)
  where
    by : has_id id ys ≡ true → (test : Bool) → (test || has_id id ys) ≡ true
    by rest true = refl
    by rest false = rest

pub before_place : (id : Id) (y : Nack) (ys : List Nack) (i : ℕ) (x : Nack) → AreAbove y.id ys → slice_get ys i ≡ Some x → x.id ≡ id → is_same_id y.id id ≡ false
before_place id y ys i x above here same = is_same_id-below y.id id (rw same at (AreAbove-get y.id ys i x above here))

pub nack_with-place : (id : Id) (xs : List Nack) (i : ℕ) (x : Nack) → AreRising xs → slice_get xs i ≡ Some x → x.id ≡ id → nack_with id xs ≡ Some x
nack_with-place id [] i x rising here same = cc
nack_with-place id (y ∷ ys) zero x rising here same =
    let first : y ≡ x = cc in
    let test : is_same_id y.id id ≡ true = rw (first, same) (is_same_id-refl id) in
    rw test here
nack_with-place id (y ∷ ys) (suc i) x rising here same =
    rw (before_place id y ys i x rising.0 here same) (nack_with-place id ys i x rising.1 here same)

pub without-place : (id : Id) (xs : List Nack) (i : ℕ) (x : Nack) → AreRising xs → slice_get xs i ≡ Some x → x.id ≡ id → take i xs ++ drop (suc i) xs ≡ without id xs
without-place id [] i x rising here same = cc
without-place id (y ∷ ys) zero x rising here same =
    let first : y ≡ x = cc in
    let first_id : y.id ≡ id = ap (λ (e : Nack). e.id) first ∙ same in
    let test : is_same_id y.id id ≡ true = rw (first, same) (is_same_id-refl id) in
    let above : AreAbove id ys = rw first_id at rising.0 in
    rw test (sym (without-none id ys (has_id-above id ys above)))
without-place id (y ∷ ys) (suc i) x rising here same =
    rw (before_place id y ys i x rising.0 here same) (ap (λ (l : List Nack). y ∷ l) (without-place id ys i x rising.1 here same))

-- where the place that binary search gives has another nack or none, no nack has the id
pub has_id-no_place : (id : Id) (xs : List Nack) (i : ℕ) → AreRising xs → Splits (λ (e : Nack). is_below e.id id) xs i → ((x : Nack) → slice_get xs i ≡ Some x → x.id ≡ id → ⊥) → has_id id xs ≡ false
has_id-no_place id [] i rising splits other = refl
has_id-no_place id (y ∷ ys) zero rising splits other =
    elim (IsBelow-cases y.id id) [
      | inl same ↦ absurd (other y refl same)
      | inr (inl lt) ↦ absurd (let no = splits.0 in let yes = is_below-from y.id id lt in cc)
      | inr (inr gt) ↦ has_id-above id (y ∷ ys) (gt, AreAbove-below id y.id ys gt rising.0)
    ]
has_id-no_place id (y ∷ ys) (suc i) rising splits other =
    rw (is_same_id-below y.id id (is_below-true y.id id splits.0)) (has_id-no_place id ys i rising.1 splits.1 other)
