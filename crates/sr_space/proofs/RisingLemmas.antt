-- Lists that rise by a key: what is left of one rises too, and so do names put in byte order, each once.
use Rattle.std.proofs.Common.{◌≡◌, ℕ, zero, suc, ◌+◌, ◌<◌, ◌≤◌, Bool, true, false, cond, List, [], ◌∷◌, ◌++◌, length, get_or, filter, map, subst, sym, arith, length-append}
use Rattle.std.specs.List.{flat_map}
use Rattle.sr_bytes.specs.{AreInOrder}

-- no element, or one with this property
abbrev pub AtMostOne : {Y : Type 0} → (Y → Type 0) → List Y → Type 0
AtMostOne P [] = Unit {0}
AtMostOne P (y ∷ []) = P y
AtMostOne P (y ∷ z ∷ ys) = ⊥

-- the key comes before those of all elements
abbrev pub AreAfter : {T X : Type 0} → (T → T → Type 0) → (X → T) → T → List X → Type 0
AreAfter R key t [] = Unit {0}
AreAfter R key t (x ∷ xs) = R t (key x) × AreAfter R key t xs

-- the key of each element comes before those of all later ones
abbrev pub Rises : {T X : Type 0} → (T → T → Type 0) → (X → T) → List X → Type 0
Rises R key [] = Unit {0}
Rises R key (x ∷ xs) = AreAfter R key (key x) xs × Rises R key xs

module _ {T X : Type 0} (R : T → T → Type 0) (key : X → T) where
  pub AreAfter-filter : (t : T) (p : X → Bool) (xs : List X) → AreAfter R key t xs → AreAfter R key t (filter p xs)
  AreAfter-filter t p [] after = tt
  AreAfter-filter t p (x ∷ xs) after = by (AreAfter-filter t p xs after.1) (p x)
    where
      by : AreAfter R key t (filter p xs) → (test : Bool) → AreAfter R key t (cond test (x ∷ filter p xs) (filter p xs))
      by rest true = (after.0, rest)
      by rest false = rest

  pub Rises-filter : (p : X → Bool) (xs : List X) → Rises R key xs → Rises R key (filter p xs)
  Rises-filter p [] rises = tt
  Rises-filter p (x ∷ xs) rises = by (Rises-filter p xs rises.1) (p x)
    where
      by : Rises R key (filter p xs) → (test : Bool) → Rises R key (cond test (x ∷ filter p xs) (filter p xs))
      by rest true = (AreAfter-filter (key x) p xs rises.0, rest)
      by rest false = rest

  AreAfter-at : (t : T) (xs : List X) (j : ℕ) (d : X) → AreAfter R key t xs → j < length xs → R t (key (get_or xs j d))
  AreAfter-at t [] j d after within = absurd (omega arith)
  AreAfter-at t (x ∷ xs) zero d after within = after.0
  AreAfter-at t (x ∷ xs) (suc j) d after within = AreAfter-at t xs j d after.1 (omega arith)

  -- each comes before the next one
  pub in_order-rising : (xs : List X) → Rises R key xs → AreInOrder (λ a b. R (key a) (key b)) xs
  in_order-rising [] rises k d lt = absurd (omega arith)
  in_order-rising (x ∷ xs) rises zero d lt = AreAfter-at (key x) xs 0 d rises.0 (omega arith)
  in_order-rising (x ∷ xs) rises (suc k) d lt =
      let e : suc (k + 1) ≡ suc k + 1 = omega arith in
      subst (λ n. R (key (get_or xs k d)) (key (get_or (x ∷ xs) n d))) e (in_order-rising xs rises.1 k d (omega arith))

  AreAfter-before : (trans : (a b c : T) → R a b → R b c → R a c) (s t : T) (xs : List X) → R s t → AreAfter R key t xs → AreAfter R key s xs
  AreAfter-before trans s t [] lt after = tt
  AreAfter-before trans s t (x ∷ xs) lt after = (trans s t (key x) lt after.0, AreAfter-before trans s t xs lt after.1)

  -- if each comes before the next one, it comes before all later ones
  pub rising-in_order : (trans : (a b c : T) → R a b → R b c → R a c) (xs : List X) → AreInOrder (λ a b. R (key a) (key b)) xs → Rises R key xs
  rising-in_order trans [] order = tt
  rising-in_order trans (x ∷ []) order = (tt, tt)
  rising-in_order trans (x ∷ y ∷ ys) order =
      let rest = rising-in_order trans (y ∷ ys) (λ k d lt.
      let e : suc k + 1 ≡ suc (k + 1) = omega arith in
      subst (λ n. R (key (get_or (y ∷ ys) k d)) (key (get_or (x ∷ y ∷ ys) n d))) e (order (suc k) d (omega arith))) in
      let first : R (key x) (key y) = order 0 x (omega arith) in
      ((first, AreAfter-before trans (key x) (key y) ys first rest.0), rest)

-- the elements of a list, each with a key, in the form that a function gives them
module _ {T X Y : Type 0} (R : T → T → Type 0) (key : X → T) (f : Y → X) where
  pub AreAfter-map : (t : T) (ys : List Y) → AreAfter R (λ y. key (f y)) t ys → AreAfter R key t (map f ys)
  AreAfter-map t [] after = tt
  AreAfter-map t (y ∷ ys) after = (after.0, AreAfter-map t ys after.1)

  pub Rises-map : (ys : List Y) → Rises R (λ y. key (f y)) ys → Rises R key (map f ys)
  Rises-map [] rises = tt
  Rises-map (y ∷ ys) rises = (AreAfter-map (key (f y)) ys rises.0, Rises-map ys rises.1)

-- one element with the same key, or none, in the place of each
module _ {T X Y : Type 0} (R : T → T → Type 0) (from : X → T) (key : Y → T) (f : X → List Y) (one : (x : X) → AtMostOne (λ y. key y ≡ from x) (f x)) where
  AreAfter-flat_map : (t : T) (xs : List X) → AreAfter R from t xs → AreAfter R key t (flat_map f xs)
  AreAfter-flat_map t [] after = tt
  AreAfter-flat_map t (x ∷ xs) after = by (AreAfter-flat_map t xs after.1) (f x) (one x)
    where
      by : AreAfter R key t (flat_map f xs) → (ys : List Y) → AtMostOne (λ y. key y ≡ from x) ys → AreAfter R key t (ys ++ flat_map f xs)
      by rest [] same = rest
      by rest (y ∷ []) same = (subst (λ u. R t u) (sym same) after.0, rest)
      by rest (y ∷ z ∷ ys) same = absurd same

  pub Rises-flat_map : (xs : List X) → Rises R from xs → Rises R key (flat_map f xs)
  Rises-flat_map [] rises = tt
  Rises-flat_map (x ∷ xs) rises = by (Rises-flat_map xs rises.1) (f x) (one x)
    where
      by : Rises R key (flat_map f xs) → (ys : List Y) → AtMostOne (λ y. key y ≡ from x) ys → Rises R key (ys ++ flat_map f xs)
      by rest [] same = rest
      by rest (y ∷ []) same = (subst (λ u. AreAfter R key u (flat_map f xs)) (sym same) (AreAfter-flat_map (from x) xs rises.0), rest)
      by rest (y ∷ z ∷ ys) same = absurd same

  pub length-flat_map_one : (xs : List X) → length (flat_map f xs) ≤ length xs
  length-flat_map_one [] = omega arith
  length-flat_map_one (x ∷ xs) = by (length-flat_map_one xs) (f x) (one x)
    where
      by : length (flat_map f xs) ≤ length xs → (ys : List Y) → AtMostOne (λ y. key y ≡ from x) ys → length (ys ++ flat_map f xs) ≤ suc (length xs)
      by rest [] same = omega arith
      by rest (y ∷ []) same = omega arith
      by rest (y ∷ z ∷ ys) same = absurd same
