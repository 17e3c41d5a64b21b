-- Names that rise, and what binary search finds among them.
use Rattle.std.proofs.Common.{◌≡◌, ℕ, zero, suc, ◌+◌, ◌-◌, ◌<◌, ◌≤◌, Bool, true, false, not, ◌||◌, cond, List, [], ◌∷◌, length}
use Rattle.std.proofs.Common.{map, get_or, slice_get, Option, Some, None, refl, ap, sym, subst, ◌∙◌, nat_eq, arith, true≢false}
use Rattle.std.specs.Cmp.Lexicographic.{pointwise, slice_cmp, texts_ties}
use Rattle.std.specs.List.{AllWithin}
use Rattle.std.specs.List.Sorted.{IsPartitionedBy}
use Rattle.std.specs.Ordering.{is_eq, is_lt, nat_cmp}
use Rattle.std.specs.declared.cmp.Ordering.{Ordering}
use Rattle.std.specs.declared.cmp.Ordering.TheVariants.{Less, Equal, Greater}
use Rattle.std.proofs.lemmas.Cmp.{nat_list_cmp_total, nat_list_eq_equiv}
use Rattle.std.proofs.lemmas.List.{get_or-map, get_or_default, length-map}
use Rattle.sr_bytes.specs.{AreInOrder, ComesBefore, comes_before}
use Rattle.sr_policy.specs.Rules.{Text, value_at}
use Rattle.sr_policy.specs.Snapshot.{is_among}
use Rattle.sr_policy.specs.steps.Search.{IsPlace}

-- ---- byte order

less : (a b : Text) → comes_before a b ≡ true → slice_cmp nat_cmp a b ≡ Less
less a b before = by (slice_cmp nat_cmp a b) before
  where
    by : (o : Ordering) → is_lt o ≡ true → o ≡ Less
    by Less e = refl
    by Equal e = absurd cc
    by Greater e = absurd cc

comes_before-trans : (a b c : Text) → comes_before a b ≡ true → comes_before b c ≡ true → comes_before a c ≡ true
comes_before-trans a b c p q = ap is_lt (nat_list_cmp_total.trans a b c (less a b p) (less b c q))

-- a name that comes before another is another
differ : (a b : Text) → comes_before a b ≡ true → pointwise nat_eq a b ≡ false
differ a b before = texts_ties a b ∙ ap is_eq (less a b before)

-- no name comes before itself
irreflexive : (a : Text) → comes_before a a ≡ false
irreflexive a = by (comes_before a a) refl
  where
    by : (test : Bool) → comes_before a a ≡ test → test ≡ false
    by false e = refl
    by true e = absurd (true≢false (sym (nat_list_eq_equiv.refl a) ∙ differ a a e))

-- of two names that differ, one comes before the other
other_way : (a b : Text) → pointwise nat_eq a b ≡ false → comes_before b a ≡ false → comes_before a b ≡ true
other_way a b apart behind = by (slice_cmp nat_cmp a b) refl
  where
    by : (o : Ordering) → slice_cmp nat_cmp a b ≡ o → is_lt o ≡ true
    by Less e = refl
    by Equal e = absurd (let same = texts_ties a b ∙ ap is_eq e in cc)
    by Greater e = absurd (let yes : comes_before b a ≡ true = rw (nat_list_cmp_total.antisymm b a, e) refl in cc)

-- ---- lists that rise by a name

-- the name comes before those of all elements
abbrev AreAfter : {X : Type 0} → (X → Text) → Text → List X → Type 0
AreAfter key name [] = Unit {0}
AreAfter key name (x ∷ xs) = ComesBefore name (key x) × AreAfter key name xs

-- the name of each element comes before those of all later ones
abbrev Rises : {X : Type 0} → (X → Text) → List X → Type 0
Rises key [] = Unit {0}
Rises key (x ∷ xs) = AreAfter key (key x) xs × Rises key xs

module _ {X : Type 0} (key : X → Text) where
  AreAfter-before : (a b : Text) (xs : List X) → comes_before a b ≡ true → AreAfter key b xs → AreAfter key a xs
  AreAfter-before a b [] lt after = tt
  AreAfter-before a b (x ∷ xs) lt after =
      (comes_before-trans a b (key x) lt after.0, AreAfter-before a b xs lt after.1)

  AreAfter-at : (name : Text) (xs : List X) (j : ℕ) (d : X) → AreAfter key name xs → j < length xs
      → comes_before name (key (get_or xs j d)) ≡ true
  AreAfter-at name [] j d after within = absurd (omega arith)
  AreAfter-at name (x ∷ xs) zero d after within = after.0
  AreAfter-at name (x ∷ xs) (suc j) d after within = AreAfter-at name xs j d after.1 (omega arith)

  -- if each comes before the next one, it comes before all later ones
  rises : (xs : List X) → AreInOrder (λ a b. ComesBefore (key a) (key b)) xs → Rises key xs
  rises [] order = tt
  rises (x ∷ []) order = (tt, tt)
  rises (x ∷ y ∷ ys) order =
      let rest = rises (y ∷ ys) (λ k d lt.
      let e : suc k + 1 ≡ suc (k + 1) = omega arith in
      subst (λ n. ComesBefore (key (get_or (y ∷ ys) k d)) (key (get_or (x ∷ y ∷ ys) n d))) e
      (order (suc k) d (omega arith))) in
      let first : ComesBefore (key x) (key y) = order 0 x (omega arith) in
      ((first, AreAfter-before (key x) (key y) ys first rest.0), rest)

  -- elements are in order by their names if their names are
  pub by_names : (xs : List X) → AreInOrder ComesBefore (map key xs)
      → AreInOrder (λ a b. ComesBefore (key a) (key b)) xs
  by_names xs order k d lt =
      let here : get_or (map key xs) k (key d) ≡ key (get_or xs k d) = get_or-map key xs k d (key d) (omega arith) in
      let next : get_or (map key xs) (k + 1) (key d) ≡ key (get_or xs (k + 1) d) =
      get_or-map key xs (k + 1) d (key d) lt in
      rw (here, next) at (order k (key d) (omega (arith, length-map xs key)))

  -- and their names are if they are
  pub names_in_order : (xs : List X) → AreInOrder (λ a b. ComesBefore (key a) (key b)) xs
      → AreInOrder ComesBefore (map key xs)
  names_in_order [] order k d lt = absurd (omega arith)
  names_in_order (x ∷ xs) order k d lt =
      let all = x ∷ xs in
      let within : k + 1 < length all = omega (arith, length-map all key) in
      let here : get_or (map key all) k d ≡ key (get_or all k x) = get_or-map key all k x d (omega arith) in
      let next : get_or (map key all) (k + 1) d ≡ key (get_or all (k + 1) x) =
      get_or-map key all (k + 1) x d within in
      rw (here, next) (order k x within)

  -- ---- binary search

  first : (xs : List X) (name : Text) → Rises key xs → IsPartitionedBy (λ x. comes_before (key x) name) xs
  first [] name up i j d le within earlier = absurd (omega arith)
  first (x ∷ xs) name up zero zero d le within earlier = earlier
  first (x ∷ xs) name up zero (suc j) d le within earlier =
      comes_before-trans (key x) (key (get_or xs j d)) name (AreAfter-at (key x) xs j d up.0 (omega arith)) earlier
  first (x ∷ xs) name up (suc i) zero d le within earlier = absurd (omega arith)
  first (x ∷ xs) name up (suc i) (suc j) d le within earlier =
      first xs name up.1 i j d (omega arith) (omega arith) earlier

  -- a place after the first element is one among the others
  place_after : (name : Text) (x : X) (xs : List X) (place : ℕ) → IsPlace key name (x ∷ xs) (suc place)
      → IsPlace key name xs place
  place_after name x xs place is = (
    λ k d low high. is.0 (suc k) d (omega arith) (omega arith),
    λ k d low high. is.1 (suc k) d (omega arith) (omega arith),
  )

  -- those that come before the name come first
  pub before_first : (xs : List X) (name : Text) → AreInOrder (λ a b. ComesBefore (key a) (key b)) xs
      → IsPartitionedBy (λ x. comes_before (key x) name) xs
  before_first xs name order = first xs name (rises xs order)

  -- where one comes before the name, all up to it do
  pub all_before : (xs : List X) (name : Text) (place : ℕ) (x : X) → AreInOrder (λ a b. ComesBefore (key a) (key b)) xs
      → 0 < place → place ≤ length xs → comes_before (key (get_or xs (place - 1) x)) name ≡ true
      → AllWithin (λ y. comes_before (key y) name ≡ true) xs 0 place
  all_before xs name place x order some within last k d low high =
      let same : get_or xs (place - 1) d ≡ get_or xs (place - 1) x = get_or_default xs (place - 1) d x (omega arith) in
      before_first xs name order k (place - 1) d (omega arith) (omega arith)
      (ap (λ y. comes_before (key y) name) same ∙ last)

  -- and where one does not, none from it on does
  pub none_behind : (xs : List X) (name : Text) (place : ℕ) (x : X) → AreInOrder (λ a b. ComesBefore (key a) (key b)) xs
      → place < length xs → comes_before (key (get_or xs place x)) name ≡ false
      → AllWithin (λ y. comes_before (key y) name ≡ false) xs place (length xs)
  none_behind xs name place x order within next k d low high = by (comes_before (key (get_or xs k d)) name) refl
    where
      by : (test : Bool) → comes_before (key (get_or xs k d)) name ≡ test → test ≡ false
      by false e = refl
      by true e =
          let same : get_or xs place d ≡ get_or xs place x = get_or_default xs place d x within in
          let here : comes_before (key (get_or xs place d)) name ≡ true = before_first xs name order place k d low high e in
          absurd (true≢false (sym here ∙ ap (λ y. comes_before (key y) name) same ∙ next))

  -- so where one is the name, those below come before it and no others do
  pub place_of_equal : (xs : List X) (name : Text) (place : ℕ) (x : X) → AreInOrder (λ a b. ComesBefore (key a) (key b)) xs
      → place < length xs → key (get_or xs place x) ≡ name → IsPlace key name xs place
  place_of_equal xs name place x order within same = (below place refl, none_behind xs name place x order within itself)
    where
      itself : comes_before (key (get_or xs place x)) name ≡ false
      itself = ap (λ other. comes_before other name) same ∙ irreflexive name

      below : (n : ℕ) → place ≡ n → AllWithin (λ y. comes_before (key y) name ≡ true) xs 0 place
      below zero is = λ k d low high. absurd (omega arith)
      below (suc n) is =
          let one : n + 1 ≡ place = omega arith in
          let last : comes_before (key (get_or xs n x)) name ≡ true =
          subst (λ other. comes_before (key (get_or xs n x)) other ≡ true) same
          (subst (λ i. comes_before (key (get_or xs n x)) (key (get_or xs i x)) ≡ true) one (order n x (omega arith))) in
          all_before xs name place x order (omega arith) (omega arith)
          (subst (λ i. comes_before (key (get_or xs i x)) name ≡ true) (omega arith) last)

pub of_not : (b : Bool) → not b ≡ true → b ≡ false
of_not false e = refl
of_not true e = cc

-- what a pair holds, if there is one and it has the name
abbrev pub held_by : {V : Type 0} → Text → Option (Text × V) → Option V
held_by name None = None
held_by name (Some pair) = cond (pointwise nat_eq name pair.0) (Some pair.1) None

module _ {V : Type 0} (name : Text) where
  value_at-later : (pairs : List (Text × V)) → AreAfter (λ pair. pair.0) name pairs → value_at name pairs ≡ None
  value_at-later [] after = refl
  value_at-later (x ∷ xs) after = rw (differ name x.0 after.0) (value_at-later xs after.1)

  value_at-by : (pairs : List (Text × V)) (place : ℕ) → Rises (λ pair. pair.0) pairs → place ≤ length pairs
      → IsPlace (λ pair. pair.0) name pairs place → value_at name pairs ≡ held_by name (slice_get pairs place)
  value_at-by [] place up within is = refl
  value_at-by (x ∷ xs) zero up within is = by (pointwise nat_eq name x.0) refl
    where
      by : (test : Bool) → pointwise nat_eq name x.0 ≡ test
          → cond test (Some x.1) (value_at name xs) ≡ cond test (Some x.1) None
      by true e = refl
      by false e =
          let before = other_way name x.0 e (is.1 0 x (omega arith) (omega arith)) in
          value_at-later xs (AreAfter-before (λ pair. pair.0) name x.0 xs before up.0)
  value_at-by (x ∷ xs) (suc place) up within is =
      let apart : pointwise nat_eq name x.0 ≡ false =
      nat_list_eq_equiv.symm name x.0 ∙ differ x.0 name (is.0 0 x (omega arith) (omega arith)) in
      rw apart (value_at-by xs place up.1 (omega arith) (place_after (λ pair. pair.0) name x xs place is))

  -- if the names rise, the pair at the place decides
  pub value_at-place : (pairs : List (Text × V)) (place : ℕ) → AreInOrder ComesBefore (map (λ pair. pair.0) pairs)
      → place ≤ length pairs → IsPlace (λ pair. pair.0) name pairs place
      → value_at name pairs ≡ held_by name (slice_get pairs place)
  value_at-place pairs place order =
      value_at-by pairs place (rises (λ pair. pair.0) pairs (by_names (λ pair. pair.0) pairs order))

-- there is a name, and it is this one
abbrev pub is_held : Text → Option Text → Bool
is_held name None = false
is_held name (Some other) = pointwise nat_eq other name

is_among-later : (name : Text) (names : List Text) → AreAfter (λ other. other) name names → is_among names name ≡ false
is_among-later name [] after = refl
is_among-later name (x ∷ xs) after =
    rw (nat_list_eq_equiv.symm x name ∙ differ name x after.0) (is_among-later name xs after.1)

is_among-by : (name : Text) (names : List Text) (place : ℕ) → Rises (λ other. other) names → place ≤ length names
    → IsPlace (λ other. other) name names place → is_among names name ≡ is_held name (slice_get names place)
is_among-by name [] place up within is = refl
is_among-by name (x ∷ xs) zero up within is = by (pointwise nat_eq x name) refl
  where
    by : (test : Bool) → pointwise nat_eq x name ≡ test → (test || is_among xs name) ≡ test
    by true e = refl
    by false e =
        let before = other_way name x (nat_list_eq_equiv.symm name x ∙ e) (is.1 0 x (omega arith) (omega arith)) in
        is_among-later name xs (AreAfter-before (λ other. other) name x xs before up.0)
is_among-by name (x ∷ xs) (suc place) up within is =
    rw (differ x name (is.0 0 x (omega arith) (omega arith)))
    (is_among-by name xs place up.1 (omega arith) (place_after (λ other. other) name x xs place is))

-- if the names rise, the one at the place decides
pub is_among-place : (name : Text) (names : List Text) (place : ℕ) → AreInOrder ComesBefore names
    → place ≤ length names → IsPlace (λ other. other) name names place
    → is_among names name ≡ is_held name (slice_get names place)
is_among-place name names place order = is_among-by name names place (rises (λ other. other) names order)
