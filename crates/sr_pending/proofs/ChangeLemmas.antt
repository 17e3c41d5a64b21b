-- Entries that rise, with one more among them or one of them changed.
use Rattle.std.proofs.Common.{◌≡◌, ℕ, zero, suc, Bool, true, false, cond, not, List, [], ◌∷◌, ◌++◌, map, set, take, drop, filter, slice_get, Some, inl, inr, refl, ap, subst, sym, ◌∙◌}
use Rattle.std.proofs.Math.Seq.{take-nil}
use Rattle.std.specs.List.{All, insert}
use Rattle.std.proofs.lemmas.List.Elements.{All-append, All-cons, All-filter, All-head, All-map, All-tail, All-weaker}
use Rattle.sr_ids.specs.declared.id.Id.{Id}
use Rattle.sr_ids.specs.{IsBelow}
use Rattle.sr_ids.proofs.IdLemmas.{IsBelow-cases, IsBelow-one_way}
use Rattle.sr_pending.specs.declared.nack.Nack.{Nack}
use Rattle.sr_ids.specs.{is_below, is_same_id}
use Rattle.sr_pending.specs.Pending.{AreAbove, AreRising, has_id, with_nack, without}
use Rattle.sr_pending.proofs.NackLemmas.{AreAbove-below, AreAbove-get, AreRising-filter, is_below-from, is_below-true, is_same_id-below, is_same_id-refl}
use Rattle.sr_pending.proofs.SearchLemmas.{before_place, below_first, has_id-above, has_id-not_first, without-none}
use Rattle.sr_pending.proofs.Splitting.{Splits, Splits-counted, drop-Splits}

-- the entries that pass, if they come first
pub take-Splits : {X : Type 0} (p : X → Bool) (xs : List X) (i : ℕ) → Splits p xs i → take i xs ≡ filter p xs
take-Splits p [] i splits = take-nil i
take-Splits p (x ∷ xs) zero splits = rw splits.0 (take-Splits p xs zero splits.1)
take-Splits p (x ∷ xs) (suc i) splits = rw splits.0 (ap (λ (l : List _). x ∷ l) (take-Splits p xs i splits.1))

pub is_below-not : (a b : Id) → IsBelow a b → is_below b a ≡ false
is_below-not a b lt = by (is_below b a) refl
  where
    by : (test : Bool) → is_below b a ≡ test → test ≡ false
    by true e = absurd (IsBelow-one_way a b lt (is_below-true b a e))
    by false e = refl

-- of two ids that differ, one is below
pub not_below : (a b : Id) → is_same_id a b ≡ false → not (is_below a b) ≡ is_below b a
not_below a b apart =
    elim (IsBelow-cases a b) [
      | inl same ↦ absurd (let yes : is_same_id a b ≡ true = rw same (is_same_id-refl b) in let both = sym apart ∙ yes in cc)
      | inr (inl lt) ↦ rw (is_below-from a b lt, is_below-not a b lt)
      | inr (inr gt) ↦ rw (is_below-not b a gt, is_below-from b a gt)
    ]

-- all entries lie below the id
abbrev AreBelow : Id → List Nack → Type 0
AreBelow id [] = Unit {0}
AreBelow id (x ∷ xs) = IsBelow x.id id × AreBelow id xs

AreBelow-filter : (id : Id) (xs : List Nack) → AreBelow id (filter (λ x. is_below x.id id) xs)
AreBelow-filter id [] = tt
AreBelow-filter id (x ∷ xs) = by (AreBelow-filter id xs) (is_below x.id id) refl
  where
    by : AreBelow id (filter (λ x. is_below x.id id) xs) → (test : Bool) → is_below x.id id ≡ test → AreBelow id (cond test (x ∷ filter (λ x. is_below x.id id) xs) (filter (λ x. is_below x.id id) xs))
    by rest true e = (is_below-true x.id id e, rest)
    by rest false e = rest

AreAbove-filter_above : (id : Id) (xs : List Nack) → AreAbove id (filter (λ x. is_below id x.id) xs)
AreAbove-filter_above id [] = tt
AreAbove-filter_above id (x ∷ xs) = by (AreAbove-filter_above id xs) (is_below id x.id) refl
  where
    by : AreAbove id (filter (λ x. is_below id x.id) xs) → (test : Bool) → is_below id x.id ≡ test → AreAbove id (cond test (x ∷ filter (λ x. is_below id x.id) xs) (filter (λ x. is_below id x.id) xs))
    by rest true e = (is_below-true id x.id e, rest)
    by rest false e = rest

AreAbove-join : (id : Id) (xs : List Nack) (nack : Nack) (ys : List Nack) → AreAbove id xs → IsBelow id nack.id → AreAbove id ys → AreAbove id (xs ++ nack ∷ ys)
AreAbove-join id [] nack ys above here behind = (here, behind)
AreAbove-join id (x ∷ xs) nack ys above here behind = (above.0, AreAbove-join id xs nack ys above.1 here behind)

AreRising-join : (xs : List Nack) (nack : Nack) (ys : List Nack) → AreRising xs → AreBelow nack.id xs → AreAbove nack.id ys → AreRising ys → AreRising (xs ++ nack ∷ ys)
AreRising-join [] nack ys rising before above after = (above, after)
AreRising-join (x ∷ xs) nack ys rising before above after =
    (AreAbove-join x.id xs nack ys rising.0 before.0 (AreAbove-below x.id nack.id ys before.0 above), AreRising-join xs nack ys rising.1 before.1 above after)

pub AreRising-with_nack : (nack : Nack) (xs : List Nack) → AreRising xs → AreRising (with_nack nack xs)
AreRising-with_nack nack xs rising =
    AreRising-join (filter (λ x. is_below x.id nack.id) xs) nack (filter (λ x. is_below nack.id x.id) xs) (AreRising-filter (λ x. is_below x.id nack.id) xs rising) (AreBelow-filter nack.id xs) (AreAbove-filter_above nack.id xs) (AreRising-filter (λ x. is_below nack.id x.id) xs rising)

pub All-with_nack : (P : Nack → Type 0) (nack : Nack) (xs : List Nack) → P nack → All P xs → All P (with_nack nack xs)
All-with_nack P nack xs here all =
    All-append P (filter (λ x. is_below x.id nack.id) xs) (nack ∷ filter (λ x. is_below nack.id x.id) xs) (All-filter (λ x. is_below x.id nack.id) P xs all) (All-cons P nack (filter (λ x. is_below nack.id x.id) xs) here (All-filter (λ x. is_below nack.id x.id) P xs all))

-- one entry changes, and keeps its id
module _ (id : Id) (change : Nack → Nack) where
  abbrev pub changed_at : Nack → Nack
  changed_at nack = cond (is_same_id nack.id id) (change nack) nack

  pub map-none : (xs : List Nack) → has_id id xs ≡ false → map changed_at xs ≡ xs
  map-none [] none = refl
  map-none (x ∷ xs) none =
      let parts = has_id-not_first id x xs none in
      rw parts.0 (ap (λ (l : List Nack). x ∷ l) (map-none xs parts.1))

  pub set-place : (xs : List Nack) (i : ℕ) (x : Nack) → AreRising xs → slice_get xs i ≡ Some x → x.id ≡ id → set xs i (change x) ≡ map changed_at xs
  set-place [] i x rising here same = cc
  set-place (y ∷ ys) zero x rising here same =
      let first : y ≡ x = cc in
      let first_id : y.id ≡ id = ap (λ (e : Nack). e.id) first ∙ same in
      let test : is_same_id y.id id ≡ true = rw first_id (is_same_id-refl id) in
      let above : AreAbove id ys = rw first_id at rising.0 in
      let rest : map changed_at ys ≡ ys = map-none ys (has_id-above id ys above) in
      rw test (ap (λ (e : Nack). change e ∷ ys) (sym first) ∙ ap (λ (l : List Nack). change y ∷ l) (sym rest))
  set-place (y ∷ ys) (suc i) x rising here same =
      rw (before_place id y ys i x rising.0 here same) (ap (λ (l : List Nack). y ∷ l) (set-place ys i x rising.1 here same))

  module _ (keeps : (nack : Nack) → (change nack).id ≡ nack.id) where
    same_id : (x : Nack) → (changed_at x).id ≡ x.id
    same_id x = by (is_same_id x.id id)
      where
        by : (test : Bool) → (cond test (change x) x).id ≡ x.id
        by true = keeps x
        by false = refl

    AreAbove-changed : (a : Id) (xs : List Nack) → AreAbove a xs → AreAbove a (map changed_at xs)
    AreAbove-changed a [] above = tt
    AreAbove-changed a (x ∷ xs) above =
        let P : Id → Type 0 = λ b. IsBelow a b in
        (subst P (sym (same_id x)) above.0, AreAbove-changed a xs above.1)

    pub AreRising-changed : (xs : List Nack) → AreRising xs → AreRising (map changed_at xs)
    AreRising-changed [] rising = tt
    AreRising-changed (x ∷ xs) rising =
        let P : Id → Type 0 = λ b. AreAbove b (map changed_at xs) in
        (subst P (sym (same_id x)) (AreAbove-changed x.id xs rising.0), AreRising-changed xs rising.1)

  pub All-changed : (P : Nack → Type 0) → ((nack : Nack) → P (change nack)) → (xs : List Nack) → All P xs → All P (map changed_at xs)
  All-changed P holds xs all = All-map P changed_at xs (All-weaker P (λ x. P (changed_at x)) each xs all)
    where
      by : (x : Nack) → P x → (test : Bool) → P (cond test (change x) x)
      by x here true = holds x
      by x here false = here

      each : (x : Nack) → P x → P (changed_at x)
      each x here = by x here (is_same_id x.id id)

-- no entry has an id that was taken out
pub has_id-without : (id : Id) (xs : List Nack) → has_id id (without id xs) ≡ false
has_id-without id [] = refl
has_id-without id (x ∷ xs) = by (is_same_id x.id id) refl (has_id-without id xs)
  where
    by : (test : Bool) → is_same_id x.id id ≡ test → has_id id (without id xs) ≡ false → has_id id (cond (not test) (x ∷ without id xs) (without id xs)) ≡ false
    by true e rest = rest
    by false e rest = rw e rest

-- an entry above all others comes behind them
module _ (x : Nack) (ys : List Nack) where
  above-at : (id : Id) (xs : List Nack) → AreAbove id (xs ++ x ∷ ys) → IsBelow id x.id
  above-at id [] above = above.0
  above-at id (z ∷ xs) above = above-at id xs above.1

  pub fresh-behind : (xs : List Nack) → AreRising (xs ++ x ∷ ys) → has_id x.id xs ≡ false
  fresh-behind [] rising = refl
  fresh-behind (z ∷ xs) rising = rw (is_same_id-below z.id x.id (above-at z.id xs rising.0)) (fresh-behind xs rising.1)

  all_before : (xs : List Nack) → AreRising (xs ++ x ∷ ys) → filter (λ o. is_below o.id x.id) xs ≡ xs
  all_before [] rising = refl
  all_before (z ∷ xs) rising = rw (is_below-from z.id x.id (above-at z.id xs rising.0)) (ap (λ (l : List Nack). z ∷ l) (all_before xs rising.1))

  none_behind : (xs : List Nack) → AreRising (xs ++ x ∷ ys) → filter (λ o. is_below x.id o.id) xs ≡ []
  none_behind [] rising = refl
  none_behind (z ∷ xs) rising = rw (is_below-not z.id x.id (above-at z.id xs rising.0)) (none_behind xs rising.1)

  pub with_nack-behind : (xs : List Nack) → AreRising (xs ++ x ∷ ys) → with_nack x xs ≡ xs ++ x ∷ []
  with_nack-behind xs rising =
      ap (λ (l : List Nack). l ++ x ∷ filter (λ o. is_below x.id o.id) xs) (all_before xs rising)
      ∙ ap (λ (l : List Nack). xs ++ x ∷ l) (none_behind xs rising)

  pub All-at : (P : Nack → Type 0) (xs : List Nack) → All P (xs ++ x ∷ ys) → P x
  All-at P [] all = All-head P x ys all
  All-at P (z ∷ xs) all = All-at P xs (All-tail P z (xs ++ x ∷ ys) all)
