-- Lists in the order of the entries that f gives: what binary search finds in them, and what they become there.
use Rattle.std.proofs.Common.{◌≡◌, ℕ, zero, suc, ◌-◌, ◌<◌, Bool, true, false, cond, not, List, [], ◌∷◌, ◌++◌, length, map, take, drop, filter, slice_get, Option, Some, None, refl, ap, sym, ◌∙◌, arith}
use Rattle.std.specs.List.{count_by, insert, remove, slice_range}
use Rattle.std.specs.List.Sorted.{IsPartitionedBy}
use Rattle.std.specs.Option.{option_map}
use Rattle.std.proofs.Math.ListN.{get_or-map}
use Rattle.std.proofs.lemmas.List.{length-map, take_rest}
use Rattle.std.proofs.lemmas.List.Elements.{filter_agree}
use Rattle.std.proofs.lemmas.List.Sums.{length-filter}
use Rattle.std.proofs.lemmas.Option.{slice_get-map}
use Rattle.sr_ids.specs.declared.id.Id.{Id}
use Rattle.sr_ids.specs.{IsBelow}
use Rattle.sr_pending.specs.declared.nack.Nack.{Nack}
use Rattle.sr_ids.specs.{is_below, is_same_id}
use Rattle.sr_pending.specs.Pending.{AreAbove, AreRising, has_id, is_between}
use Rattle.sr_pending.specs.steps.Blocks.{ends_in}
use Rattle.sr_pending.specs.steps.Search.{IsEdge, is_before}
use Rattle.sr_pending.proofs.NackLemmas.{AreAbove-get, is_below-from, is_below-self, is_same_id-below, is_same_id-refl}
use Rattle.sr_pending.proofs.SearchLemmas.{before_place, below_first, has_id-above, has_id-no_place, has_id-not_first, not_above_first}
use Rattle.sr_pending.proofs.ChangeLemmas.{is_below-not, not_below, take-Splits}
use Rattle.sr_pending.proofs.Finding.{Splits-all, Splits-edge, Splits-map}
use Rattle.sr_pending.proofs.Splitting.{Splits-counted, count_by-no, count_by-yes, drop-Splits, filter-Splits}

-- all from a place on
pub slice_range-rest : {X : Type 0} (xs : List X) (from len : ℕ) → len ≡ length xs → slice_range xs from len ≡ drop from xs
slice_range-rest xs from len is = ap (λ (n : ℕ). take (n - from) (drop from xs)) is ∙ take_rest xs from

not_not : (b : Bool) → not (not b) ≡ b
not_not true = refl
not_not false = refl

module _ {X : Type 0} (f : X → Nack) where
  -- those that pass a test come first if their entries do
  IsPartitionedBy-map : (p : Nack → Bool) (xs : List X) → IsPartitionedBy p (map f xs) → IsPartitionedBy (λ (x : X). p (f x)) xs
  IsPartitionedBy-map p xs first i j d le within passes =
      let within_all : j < length (map f xs) = omega (arith, length-map xs f) in
      sym (ap p (get_or-map f xs i d)) ∙ first i j (f d) le within_all (ap p (get_or-map f xs j d) ∙ passes)

  module _ (xs : List X) (rising : AreRising (map f xs)) (id : Id) where
    pub first_below : IsPartitionedBy (λ (x : X). is_below (f x).id id) xs
    first_below = IsPartitionedBy-map (λ (e : Nack). is_below e.id id) xs (below_first (map f xs) id rising)

    pub first_upto : IsPartitionedBy (λ (x : X). not (is_below id (f x).id)) xs
    first_upto = IsPartitionedBy-map (λ (e : Nack). not (is_below id e.id)) xs (not_above_first (map f xs) id rising)

    pub first_before : (upto : Bool) → IsPartitionedBy (λ (x : X). is_before upto id (f x)) xs
    first_before false = first_below
    first_before true = first_upto

    -- if the last one does, all do
    pub last_before : (upto : Bool) → ends_in (λ (x : X). is_before upto id (f x)) xs ≡ true → length xs ≡ count_by (λ x. is_before upto id (f x)) xs
    last_before upto ends =
        let p : X → Bool = λ x. is_before upto id (f x) in
        Splits-all p xs (count_by p xs) (Splits-counted p xs (first_before upto)) ends

    -- where the entry before lies below the id and the next one does not
    pub place_edge : (i : ℕ) → IsEdge (λ (x : X). is_below (f x).id id) xs i → i ≡ count_by (λ x. is_below (f x).id id) xs
    place_edge i edge =
        let p : X → Bool = λ x. is_below (f x).id id in
        sym (Splits-edge p xs i (count_by p xs) (Splits-counted p xs first_below) edge)

    -- what lies from the place that is found on
    pub rest_from : drop (count_by (λ x. is_below (f x).id id) xs) xs ≡ filter (λ x. not (is_below (f x).id id)) xs
    rest_from =
        let p : X → Bool = λ x. is_below (f x).id id in
        drop-Splits p xs (count_by p xs) (Splits-counted p xs first_below)

    pub rest_above : drop (count_by (λ x. not (is_below id (f x).id)) xs) xs ≡ filter (λ x. is_below id (f x).id) xs
    rest_above =
        let p : X → Bool = λ x. not (is_below id (f x).id) in
        drop-Splits p xs (count_by p xs) (Splits-counted p xs first_upto)
        ∙ filter_agree (λ x. not (p x)) (λ x. is_below id (f x).id) (λ x. not_not (is_below id (f x).id)) xs

  -- and between two places
  pub range_between : (xs : List X) (start end : Id) → AreRising (map f xs) → filter (λ x. is_between start end (f x).id) xs ≡ take (count_by (λ x. not (is_below end (f x).id)) xs - count_by (λ x. is_below (f x).id start) xs) (drop (count_by (λ x. is_below (f x).id start) xs) xs)
  range_between xs start end rising =
      let before : X → Bool = λ x. is_below (f x).id start in
      let behind : X → Bool = λ x. not (is_below end (f x).id) in
      filter-Splits before behind xs (count_by before xs) (count_by behind xs) (Splits-counted before xs (first_below xs rising start)) (Splits-counted behind xs (first_upto xs rising end))

  -- if the place that is found has another entry or none, no entry has the id
  pub nowhere : (id : Id) (xs : List X) → AreRising (map f xs) → ((x : X) → slice_get xs (count_by (λ x. is_below (f x).id id) xs) ≡ Some x → (f x).id ≡ id → ⊥) → has_id id (map f xs) ≡ false
  nowhere id xs rising other =
      let p : X → Bool = λ x. is_below (f x).id id in
      has_id-no_place id (map f xs) (count_by p xs) rising (Splits-map f (λ (e : Nack). is_below e.id id) xs (count_by p xs) (Splits-counted p xs (first_below xs rising id))) (λ e here same. by e same (slice_get xs (count_by p xs)) refl (sym (slice_get-map f xs (count_by p xs)) ∙ here))
    where
      by : (e : Nack) → e.id ≡ id → (r : Option X) → slice_get xs (count_by (λ x. is_below (f x).id id) xs) ≡ r → option_map f (slice_get xs (count_by (λ x. is_below (f x).id id) xs)) ≡ Some e → ⊥
      by e same None is here = let none = sym (ap (option_map f) is) ∙ here in cc
      by e same (Some x) is here =
          let found : Some (f x) ≡ Some e = sym (ap (option_map f) is) ∙ here in
          let one : f x ≡ e = cc in
          other x is (ap (λ (n : Nack). n.id) one ∙ same)

  -- the new one goes to the place that binary search gives
  pub not_below-above : (id : Id) (xs : List X) → has_id id (map f xs) ≡ false → filter (λ x. not (is_below (f x).id id)) xs ≡ filter (λ x. is_below id (f x).id) xs
  not_below-above id [] fresh = refl
  not_below-above id (x ∷ xs) fresh =
      let parts = has_id-not_first id (f x) (map f xs) fresh in
      rw (not_below (f x).id id parts.0) (ap (λ (l : List X). cond (is_below id (f x).id) (x ∷ l) l) (not_below-above id xs parts.1))

  pub inserted : (xs : List X) (x : X) → AreRising (map f xs) → has_id (f x).id (map f xs) ≡ false → insert xs (count_by (λ o. is_below (f o).id (f x).id) xs) x ≡ filter (λ o. is_below (f o).id (f x).id) xs ++ x ∷ filter (λ o. is_below (f x).id (f o).id) xs
  inserted xs x rising fresh =
      let before : X → Bool = λ o. is_below (f o).id (f x).id in
      let n = count_by before xs in
      let front : take n xs ≡ filter before xs = take-Splits before xs n (Splits-counted before xs (first_below xs rising (f x).id)) in
      let back : drop n xs ≡ filter (λ o. is_below (f x).id (f o).id) xs = rest_from xs rising (f x).id ∙ not_below-above (f x).id xs fresh in
      ap (λ (l : List X). l ++ x ∷ drop n xs) front ∙ ap (λ (l : List X). filter before xs ++ x ∷ l) back

  -- where it is, it alone goes
  pub without_none : (id : Id) (xs : List X) → has_id id (map f xs) ≡ false → filter (λ x. not (is_same_id (f x).id id)) xs ≡ xs
  without_none id [] none = refl
  without_none id (x ∷ xs) none =
      let parts = has_id-not_first id (f x) (map f xs) none in
      rw parts.0 (ap (λ (l : List X). x ∷ l) (without_none id xs parts.1))

  place-map : (xs : List X) (i : ℕ) (x : X) → slice_get xs i ≡ Some x → slice_get (map f xs) i ≡ Some (f x)
  place-map xs i x here = slice_get-map f xs i ∙ ap (option_map f) here

  pub removed : (id : Id) (xs : List X) (i : ℕ) (x : X) → AreRising (map f xs) → slice_get xs i ≡ Some x → (f x).id ≡ id → remove xs i ≡ filter (λ x. not (is_same_id (f x).id id)) xs
  removed id [] i x rising here same = cc
  removed id (y ∷ ys) zero x rising here same =
      let first : y ≡ x = cc in
      let first_id : (f y).id ≡ id = ap (λ (z : X). (f z).id) first ∙ same in
      let test : is_same_id (f y).id id ≡ true = rw first_id (is_same_id-refl id) in
      let above : AreAbove id (map f ys) = rw first_id at rising.0 in
      rw test (sym (without_none id ys (has_id-above id (map f ys) above)))
  removed id (y ∷ ys) (suc i) x rising here same =
      rw (before_place id (f y) (map f ys) i (f x) rising.0 (place-map ys i x here) same) (ap (λ (l : List X). y ∷ l) (removed id ys i x rising.1 here same))

  -- put in again, it is where it was
  none_below : (id : Id) (xs : List X) → AreAbove id (map f xs) → filter (λ x. is_below (f x).id id) xs ≡ []
  none_below id [] above = refl
  none_below id (x ∷ xs) above = rw (is_below-not id (f x).id above.0) (none_below id xs above.1)

  all_above : (id : Id) (xs : List X) → AreAbove id (map f xs) → filter (λ x. is_below id (f x).id) xs ≡ xs
  all_above id [] above = refl
  all_above id (x ∷ xs) above = rw (is_below-from id (f x).id above.0) (ap (λ (l : List X). x ∷ l) (all_above id xs above.1))

  -- the place of the entry with the id is the one that is found, and behind it lies what is above the id
  pub place_at : (id : Id) (xs : List X) (i : ℕ) (x : X) → AreRising (map f xs) → slice_get xs i ≡ Some x → (f x).id ≡ id → i ≡ count_by (λ x. is_below (f x).id id) xs
  place_at id [] i x rising here same = cc
  place_at id (y ∷ ys) zero x rising here same =
      let p : X → Bool = λ x. is_below (f x).id id in
      let first : y ≡ x = cc in
      let first_id : (f y).id ≡ id = ap (λ (z : X). (f z).id) first ∙ same in
      let above : AreAbove id (map f ys) = rw first_id at rising.0 in
      let fails : p y ≡ false = rw first_id (is_below-self id) in
      sym (count_by-no p y ys fails ∙ sym (length-filter p ys) ∙ ap (λ (l : List X). length l) (none_below id ys above))
  place_at id (y ∷ ys) (suc i) x rising here same =
      let p : X → Bool = λ x. is_below (f x).id id in
      let lt : IsBelow (f y).id id = rw same at (AreAbove-get (f y).id (map f ys) i (f x) rising.0 (place-map ys i x here)) in
      ap (λ (n : ℕ). suc n) (place_at id ys i x rising.1 here same) ∙ sym (count_by-yes p y ys (is_below-from (f y).id id lt))

  pub rest_behind : (id : Id) (xs : List X) (i : ℕ) (x : X) → AreRising (map f xs) → slice_get xs i ≡ Some x → (f x).id ≡ id → drop 1 (drop i xs) ≡ filter (λ x. is_below id (f x).id) xs
  rest_behind id [] i x rising here same = cc
  rest_behind id (y ∷ ys) zero x rising here same =
      let first : y ≡ x = cc in
      let first_id : (f y).id ≡ id = ap (λ (z : X). (f z).id) first ∙ same in
      let above : AreAbove id (map f ys) = rw first_id at rising.0 in
      let fails : is_below id (f y).id ≡ false = rw first_id (is_below-self id) in
      rw fails (sym (all_above id ys above))
  rest_behind id (y ∷ ys) (suc i) x rising here same =
      let lt : IsBelow (f y).id id = rw same at (AreAbove-get (f y).id (map f ys) i (f x) rising.0 (place-map ys i x here)) in
      rw (is_below-not (f y).id id lt) (rest_behind id ys i x rising.1 here same)

  abbrev pub with_one : X → List X → List X
  with_one x xs = filter (λ o. is_below (f o).id (f x).id) xs ++ x ∷ filter (λ o. is_below (f x).id (f o).id) xs

  abbrev pub without_id : Id → List X → List X
  without_id id xs = filter (λ x. not (is_same_id (f x).id id)) xs

  pub put_back : (xs : List X) (i : ℕ) (x : X) → AreRising (map f xs) → slice_get xs i ≡ Some x → with_one x (without_id (f x).id xs) ≡ xs
  put_back [] i x rising here = cc
  put_back (z ∷ zs) zero x rising here =
      let first : z ≡ x = cc in
      let id = (f x).id in
      let first_id : (f z).id ≡ id = ap (λ (z : X). (f z).id) first in
      let test : is_same_id (f z).id id ≡ true = rw first_id (is_same_id-refl id) in
      let above : AreAbove id (map f zs) = rw first_id at rising.0 in
      let gone : without_id id (z ∷ zs) ≡ zs = rw test (without_none id zs (has_id-above id (map f zs) above)) in
      ap (with_one x) gone
      ∙ ap (λ (l : List X). l ++ x ∷ filter (λ o. is_below id (f o).id) zs) (none_below id zs above)
      ∙ ap (λ (l : List X). x ∷ l) (all_above id zs above)
      ∙ ap (λ (z : X). z ∷ zs) (sym first)
  put_back (z ∷ zs) (suc i) x rising here =
      let id = (f x).id in
      let lt : IsBelow (f z).id id = AreAbove-get (f z).id (map f zs) i (f x) rising.0 (place-map zs i x here) in
      let stays : without_id id (z ∷ zs) ≡ z ∷ without_id id zs = rw (is_same_id-below (f z).id id lt) refl in
      let joined : with_one x (z ∷ without_id id zs) ≡ z ∷ with_one x (without_id id zs) = rw (is_below-from (f z).id id lt, is_below-not (f z).id id lt) refl in
      ap (with_one x) stays ∙ joined ∙ ap (λ (l : List X). z ∷ l) (put_back zs i x rising.1 here)
