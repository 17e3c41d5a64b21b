-- Entries that rise, and what taking some out leaves.
use Rattle.std.proofs.Common.{◌≡◌, ℕ, zero, suc, Bool, true, false, cond, List, [], ◌∷◌, drop, filter, slice_get, Some, arith}
use Rattle.std.proofs.lemmas.Bool.Decides.{nat_tests}
use Rattle.sr_ids.specs.declared.id.Id.{Id}
use Rattle.sr_ids.specs.{IsBelow}
use Rattle.sr_ids.proofs.IdLemmas.{Id-same}
use Rattle.sr_pending.specs.declared.nack.Nack.{Nack}
use Rattle.sr_ids.specs.{is_below, is_same_id}
use Rattle.sr_pending.specs.Pending.{AreAbove, AreRising}

pub IsBelow-trans : (a b c : Id) → IsBelow a b → IsBelow b c → IsBelow a c
IsBelow-trans a b c p q = grind arith

-- what the tests of two ids say
pub is_below-true : (a b : Id) → is_below a b ≡ true → IsBelow a b
is_below-true a b test = grind (arith, nat_tests)

pub is_below-from : (a b : Id) → IsBelow a b → is_below a b ≡ true
is_below-from a b below = grind (arith, nat_tests)

pub is_below-self : (a : Id) → is_below a a ≡ false
is_below-self a = grind (arith, nat_tests)

pub is_same_id-true : (a b : Id) → is_same_id a b ≡ true → a ≡ b
is_same_id-true a b test =
    let ms : a.ms ≡ b.ms = grind (arith, nat_tests) in
    let seq : a.seq ≡ b.seq = grind (arith, nat_tests) in
    Id-same a b ms seq

pub is_same_id-refl : (a : Id) → is_same_id a a ≡ true
is_same_id-refl a = grind (arith, nat_tests)

pub is_same_id-below : (a b : Id) → IsBelow a b → is_same_id a b ≡ false
is_same_id-below a b below = grind (arith, nat_tests)

pub is_same_id-above : (a b : Id) → IsBelow b a → is_same_id a b ≡ false
is_same_id-above a b below = grind (arith, nat_tests)

-- entries that rise still do with some taken out
pub AreAbove-filter : (id : Id) (p : Nack → Bool) (xs : List Nack) → AreAbove id xs → AreAbove id (filter p xs)
AreAbove-filter id p [] above = tt
AreAbove-filter id p (x ∷ xs) above = by (AreAbove-filter id p xs above.1) (p x)
  where
    by : AreAbove id (filter p xs) → (test : Bool) → AreAbove id (cond test (x ∷ filter p xs) (filter p xs))
    by rest true = (above.0, rest)
    by rest false = rest

pub AreRising-filter : (p : Nack → Bool) (xs : List Nack) → AreRising xs → AreRising (filter p xs)
AreRising-filter p [] rising = tt
AreRising-filter p (x ∷ xs) rising = by (AreRising-filter p xs rising.1) (p x)
  where
    by : AreRising (filter p xs) → (test : Bool) → AreRising (cond test (x ∷ filter p xs) (filter p xs))
    by rest true = (AreAbove-filter x.id p xs rising.0, rest)
    by rest false = rest

pub AreRising-drop : (n : ℕ) (xs : List Nack) → AreRising xs → AreRising (drop n xs)
AreRising-drop zero xs rising = rising
AreRising-drop (suc n) [] rising = tt
AreRising-drop (suc n) (x ∷ xs) rising = AreRising-drop n xs rising.1

-- an id below the first of them lies below all
pub AreAbove-below : (id a : Id) (xs : List Nack) → IsBelow id a → AreAbove a xs → AreAbove id xs
AreAbove-below id a [] below above = tt
AreAbove-below id a (x ∷ xs) below above = (IsBelow-trans id a x.id below above.0, AreAbove-below id a xs below above.1)

pub AreAbove-get : (id : Id) (xs : List Nack) (i : ℕ) (x : Nack) → AreAbove id xs → slice_get xs i ≡ Some x → IsBelow id x.id
AreAbove-get id [] i x above found = cc
AreAbove-get id (y ∷ ys) zero x above found =
    let same : y ≡ x = cc in
    rw same at above.0
AreAbove-get id (y ∷ ys) (suc i) x above found = AreAbove-get id ys i x above.1 found
