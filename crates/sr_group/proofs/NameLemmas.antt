-- Byte order of names: of two names that differ, one comes before the other.
use Rattle.std.proofs.Common.{◌≡◌, ℕ, Bool, true, false, List, [], ◌∷◌, ◌&&◌, refl, ap, nat_eq, arith}
use Rattle.std.specs.Ordering.{is_lt, nat_cmp}
use Rattle.std.specs.declared.cmp.Ordering.{Ordering}
use Rattle.std.specs.declared.cmp.Ordering.TheVariants.{Less, Equal, Greater}
use Rattle.std.specs.Cmp.Lexicographic.{slice_cmp}
use Rattle.std.proofs.lemmas.Bool.Decides.{nat_tests}
use Rattle.std.proofs.lemmas.Cmp.{nat_list_cmp_total, nat_list_eq_equiv, tied_itself}
use Rattle.std.proofs.lemmas.Map.Lookups.{exact_bytes}
use Rattle.sr_bytes.specs.{comes_before}
use Rattle.sr_pending.specs.{is_same_name}

is_lt-true : (o : Ordering) → is_lt o ≡ true → o ≡ Less
is_lt-true Less e = refl
is_lt-true Equal e = absurd cc
is_lt-true Greater e = absurd cc

less : (a b : List ℕ) → comes_before a b ≡ true → slice_cmp nat_cmp a b ≡ Less
less a b e = is_lt-true (slice_cmp nat_cmp a b) e

pub comes_before-trans : (a b c : List ℕ) → comes_before a b ≡ true → comes_before b c ≡ true → comes_before a c ≡ true
comes_before-trans a b c p q = ap is_lt (nat_list_cmp_total.trans a b c (less a b p) (less b c q))

pub comes_before-itself : (a : List ℕ) → comes_before a a ≡ false
comes_before-itself a = ap is_lt (tied_itself nat_list_cmp_total a)

pub comes_before-one_way : (a b : List ℕ) → comes_before a b ≡ true → comes_before b a ≡ false
comes_before-one_way a b p = rw (nat_list_cmp_total.antisymm b a, less a b p)

-- two names of which neither comes before the other are one
pub comes_before-neither : (a b : List ℕ) → comes_before a b ≡ false → comes_before b a ≡ false → a ≡ b
comes_before-neither a b p q = by (slice_cmp nat_cmp a b) refl
  where
    by : (o : Ordering) → slice_cmp nat_cmp a b ≡ o → a ≡ b
    by Less e = absurd (let yes : comes_before a b ≡ true = ap is_lt e in cc)
    by Equal e = exact_bytes a b e
    by Greater e = absurd (let yes : comes_before b a ≡ true = rw (nat_list_cmp_total.antisymm b a, e) in cc)

pub is_same_name-refl : (a : List ℕ) → is_same_name a a ≡ true
is_same_name-refl a = nat_list_eq_equiv.refl a

pub is_same_name-true : (a b : List ℕ) → is_same_name a b ≡ true → a ≡ b
is_same_name-true [] [] e = refl
is_same_name-true [] (y ∷ ys) e = absurd cc
is_same_name-true (x ∷ xs) [] e = absurd cc
is_same_name-true (x ∷ xs) (y ∷ ys) e = by (λ rest. is_same_name-true xs ys rest) (nat_eq x y) refl e
  where
    by : (is_same_name xs ys ≡ true → xs ≡ ys) → (test : Bool) → nat_eq x y ≡ test → (test && is_same_name xs ys) ≡ true → x ∷ xs ≡ y ∷ ys
    by others true same rest =
        let first : x ≡ y = grind (arith, nat_tests) in
        let tails : xs ≡ ys = others rest in
        cc
    by others false same rest = absurd cc

-- a name that comes before or after another is another
pub is_same_name-before : (a b : List ℕ) → comes_before a b ≡ true → is_same_name a b ≡ false
is_same_name-before a b p = by (is_same_name a b) refl
  where
    by : (test : Bool) → is_same_name a b ≡ test → test ≡ false
    by true e =
        let same = is_same_name-true a b e in
        let not_before : comes_before a b ≡ false = rw same (comes_before-itself b) in
        absurd (cc (p, not_before))
    by false e = refl

pub is_same_name-after : (a b : List ℕ) → comes_before b a ≡ true → is_same_name a b ≡ false
is_same_name-after a b p = by (is_same_name a b) refl
  where
    by : (test : Bool) → is_same_name a b ≡ test → test ≡ false
    by true e =
        let same = is_same_name-true a b e in
        let not_before : comes_before b a ≡ false = rw same (comes_before-itself b) in
        absurd (cc (p, not_before))
    by false e = refl
