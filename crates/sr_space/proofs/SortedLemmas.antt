-- A list that rises is known by its elements: any list that has the same ones and rises too is that list.
use Rattle.std.proofs.Common.{◌≡◌, ℕ, zero, suc, ◌<◌, List, [], ◌∷◌, length, get_or, inl, inr, ◌⊎◌, refl, ap, sym, subst, ◌∙◌, arith}
use Rattle.std.specs.List.{Contains}
use Rattle.std.specs.List.Sorted.{IsPermutation}
use Rattle.std.proofs.lemmas.List.Sorted.{Contains-permutation, IsPermutation-sym}
use Rattle.sr_space.proofs.RisingLemmas.{AreAfter, Rises}

-- the element is one of these
abbrev pub IsIn : {X : Type 0} → X → List X → Type 0
IsIn x [] = ⊥
IsIn x (y ∷ ys) = (x ≡ y) ⊎ IsIn x ys

module _ {X : Type 0} where
  at : (xs : List X) (x : X) (k : ℕ) → k < length xs → get_or xs k x ≡ x → IsIn x xs
  at [] x k within is = absurd (omega arith)
  at (y ∷ ys) x zero within is = inl (sym is)
  at (y ∷ ys) x (suc k) within is = inr (at ys x k (omega arith) is)

  pub IsIn-contained : (xs : List X) (x : X) → Contains xs x → IsIn x xs
  IsIn-contained xs x has = at xs x has.0 has.1 has.2

  pub Contains-one : (xs : List X) (x : X) → IsIn x xs → Contains xs x
  Contains-one [] x is = absurd is
  Contains-one (y ∷ ys) x (inl same) = (0, omega arith, sym same)
  Contains-one (y ∷ ys) x (inr later) = let rest = Contains-one ys x later in (suc rest.0, omega (arith, rest.1), rest.2)

  pub IsIn-permutation : (xs ys : List X) (x : X) → IsPermutation xs ys → IsIn x xs → IsIn x ys
  IsIn-permutation xs ys x moved is = IsIn-contained ys x (Contains-permutation xs ys x moved (Contains-one xs x is))

module _ {T X : Type 0} (R : T → T → Type 0) (key : X → T) (one_way : (a b : T) → R a b → R b a → ⊥) where
  IsIn-after : (t : T) (x : X) (xs : List X) → AreAfter R key t xs → IsIn x xs → R t (key x)
  IsIn-after t x [] after is = absurd is
  IsIn-after t x (y ∷ ys) after (inl same) = subst (λ (z : X). R t (key z)) (sym same) after.0
  IsIn-after t x (y ∷ ys) after (inr later) = IsIn-after t x ys after.1 later

  -- the first of one is the first of the other
  first_same : (x y : X) (xs ys : List X) → AreAfter R key (key x) xs → AreAfter R key (key y) ys → IsIn x (y ∷ ys) → IsIn y (x ∷ xs) → x ≡ y
  first_same x y xs ys after behind (inl same) there = same
  first_same x y xs ys after behind (inr later) (inl same) = sym same
  first_same x y xs ys after behind (inr later) (inr there) = absurd (one_way (key x) (key y) (IsIn-after (key x) y xs after there) (IsIn-after (key y) x ys behind later))

  -- what comes after the first of one does so in the other
  later_in : (x y z : X) (xs ys : List X) → x ≡ y → AreAfter R key (key x) xs → IsIn z xs → IsIn z (y ∷ ys) → IsIn z ys
  later_in x y z xs ys same after is (inr there) = there
  later_in x y z xs ys same after is (inl first) =
      let lt : R (key x) (key z) = IsIn-after (key x) z xs after is in
      let itself : R (key x) (key x) = subst (λ (u : X). R (key x) (key u)) (first ∙ sym same) lt in
      absurd (one_way (key x) (key x) itself itself)

  pub Rises-same : (xs ys : List X) → Rises R key xs → Rises R key ys → ((x : X) → IsIn x xs → IsIn x ys) → ((x : X) → IsIn x ys → IsIn x xs) → xs ≡ ys
  Rises-same [] [] rises rise there back = refl
  Rises-same [] (y ∷ ys) rises rise there back = absurd (back y (inl refl))
  Rises-same (x ∷ xs) [] rises rise there back = absurd (there x (inl refl))
  Rises-same (x ∷ xs) (y ∷ ys) rises rise there back =
      let first : x ≡ y = first_same x y xs ys rises.0 rise.0 (there x (inl refl)) (back y (inl refl)) in
      let rest : xs ≡ ys = Rises-same xs ys rises.1 rise.1
      (λ z is. later_in x y z xs ys first rises.0 is (there z (inr is)))
      (λ z is. later_in y x z ys xs (sym first) rise.0 is (back z (inr is))) in
      ap (λ (u : X). u ∷ xs) first ∙ ap (λ (l : List X). y ∷ l) rest

  -- a list that rises and one with its elements in another order, which rises too, are one
  pub Rises-permutation : (xs ys : List X) → IsPermutation xs ys → Rises R key xs → Rises R key ys → xs ≡ ys
  Rises-permutation xs ys moved rises rise =
      Rises-same xs ys rises rise (λ x is. IsIn-permutation xs ys x moved is) (λ x is. IsIn-permutation ys xs x (IsPermutation-sym xs ys moved) is)
