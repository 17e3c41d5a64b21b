-- Open sessions by rising number: where binary search finds one, and that they still rise after each change.
use Rattle.std.proofs.Common.{◌≡◌, ◌==◌, ℕ, zero, suc, ◌+◌, ◌<◌, ◌≤◌, Bool, true, false, cond, not, ◌||◌, nat_lt, List, [], ◌∷◌, ◌++◌, length, get_or, set, take, drop, slice_get, Option, Some, None, inl, inr, refl, ap, sym, ◌∙◌, subst, arith}
use Rattle.std.proofs.lemmas.Bool.{cases_lt, eqb-true, eqb-false, eq-eqb, ne_eqb, ltb-true, ltb-false, lt-ltb}
use Rattle.std.specs.List.Sorted.{IsPartitionedBy}
use Rattle.sr_pending.proofs.Splitting.{Splits}
use Rattle.sr_book.specs.Layout.{AreAbove, AreRising}
use Rattle.sr_book.specs.Server.{AreBelow, Given, Session, is_open, letter_of, with_letter, without}

-- two numbers that differ, as a test
pub differs-below : (a b : ℕ) → a < b → (a == b) ≡ false
differs-below a b lt = ne_eqb a b (λ e. omega arith)

pub differs-above : (a b : ℕ) → b < a → (a == b) ≡ false
differs-above a b gt = ne_eqb a b (λ e. omega arith)

-- ---- order

pub AreAbove-at : (number : ℕ) (xs : List Session) (j : ℕ) (d : Session) → AreAbove number xs → j < length xs → number < (get_or xs j d).number
AreAbove-at number [] j d above within = absurd (omega arith)
AreAbove-at number (x ∷ xs) zero d above within = above.0
AreAbove-at number (x ∷ xs) (suc j) d above within = AreAbove-at number xs j d above.1 (omega arith)

pub AreRising-at : (xs : List Session) (i j : ℕ) (d : Session) → AreRising xs → i < j → j < length xs → (get_or xs i d).number < (get_or xs j d).number
AreRising-at [] i j d rising lt within = absurd (omega arith)
AreRising-at (x ∷ xs) i zero d rising lt within = absurd (omega arith)
AreRising-at (x ∷ xs) zero (suc j) d rising lt within = AreAbove-at x.number xs j d rising.0 (omega arith)
AreRising-at (x ∷ xs) (suc i) (suc j) d rising lt within = AreRising-at xs i j d rising.1 (omega arith) (omega arith)

pub AreAbove-lower : (a b : ℕ) (xs : List Session) → a < b → AreAbove b xs → AreAbove a xs
AreAbove-lower a b [] lt above = tt
AreAbove-lower a b (x ∷ xs) lt above = (omega (arith, above.0), AreAbove-lower a b xs lt above.1)

-- of sessions that rise, those with a lower number come first
pub below_first : (xs : List Session) (number : ℕ) → AreRising xs → IsPartitionedBy (λ (s : Session). nat_lt s.number number) xs
below_first xs number rising i j d le within below =
    elim (cases_lt i j) [
      | inl lt ↦
          let up : (get_or xs i d).number < (get_or xs j d).number = AreRising-at xs i j d rising lt within in
          let low : (get_or xs j d).number < number = ltb-true (get_or xs j d).number number below in
          lt-ltb (get_or xs i d).number number (omega arith)
      | inr ge ↦ let same : j ≡ i = omega arith in rw same at below
    ]

-- ---- sessions that are not there

pub is_open-above : (number : ℕ) (xs : List Session) → AreAbove number xs → is_open number xs ≡ false
is_open-above number [] above = refl
is_open-above number (x ∷ xs) above = rw (differs-above x.number number above.0) (is_open-above number xs above.1)

pub is_open-not_first : (number : ℕ) (x : Session) (xs : List Session) → is_open number (x ∷ xs) ≡ false → ((x.number == number) ≡ false) × (is_open number xs ≡ false)
is_open-not_first number x xs none = by (x.number == number) refl
  where
    by : (test : Bool) → (x.number == number) ≡ test → (test ≡ false) × (is_open number xs ≡ false)
    by true e = absurd (let yes = rw e at none in cc)
    by false e = (refl, rw e at none)

pub without-none : (number : ℕ) (xs : List Session) → is_open number xs ≡ false → without number xs ≡ xs
without-none number [] none = refl
without-none number (x ∷ xs) none =
    let parts = is_open-not_first number x xs none in
    rw parts.0 (ap (λ (l : List Session). x ∷ l) (without-none number xs parts.1))

pub with_letter-none : (number : ℕ) (letter : Option Given) (xs : List Session) → is_open number xs ≡ false → with_letter number letter xs ≡ xs
with_letter-none number letter [] none = refl
with_letter-none number letter (x ∷ xs) none =
    let parts = is_open-not_first number x xs none in
    rw parts.0 (ap (λ (l : List Session). x ∷ l) (with_letter-none number letter xs parts.1))

pub letter_of-none : (number : ℕ) (xs : List Session) → is_open number xs ≡ false → letter_of number xs ≡ None
letter_of-none number [] none = refl
letter_of-none number (x ∷ xs) none =
    let parts = is_open-not_first number x xs none in
    rw parts.0 (letter_of-none number xs parts.1)

-- ---- a session that is there

pub is_open-place : (number : ℕ) (xs : List Session) (i : ℕ) (x : Session) → slice_get xs i ≡ Some x → x.number ≡ number → is_open number xs ≡ true
is_open-place number [] i x here same = cc
is_open-place number (y ∷ ys) zero x here same =
    let first : y ≡ x = cc in
    let test : (y.number == number) ≡ true = eq-eqb y.number number (ap (λ (s : Session). s.number) first ∙ same) in
    rw test
is_open-place number (y ∷ ys) (suc i) x here same = by (is_open-place number ys i x here same) (y.number == number)
  where
    by : is_open number ys ≡ true → (test : Bool) → (test || is_open number ys) ≡ true
    by rest true = refl
    by rest false = rest

pub AreAbove-get : (number : ℕ) (xs : List Session) (i : ℕ) (x : Session) → AreAbove number xs → slice_get xs i ≡ Some x → number < x.number
AreAbove-get number [] i x above here = absurd (cc)
AreAbove-get number (y ∷ ys) zero x above here = let first : y ≡ x = cc in rw first at above.0
AreAbove-get number (y ∷ ys) (suc i) x above here = AreAbove-get number ys i x above.1 here

before_place : (number : ℕ) (y : Session) (ys : List Session) (i : ℕ) (x : Session) → AreAbove y.number ys → slice_get ys i ≡ Some x → x.number ≡ number → (y.number == number) ≡ false
before_place number y ys i x above here same = differs-below y.number number (rw same at (AreAbove-get y.number ys i x above here))

pub without-place : (number : ℕ) (xs : List Session) (i : ℕ) (x : Session) → AreRising xs → slice_get xs i ≡ Some x → x.number ≡ number → take i xs ++ drop (suc i) xs ≡ without number xs
without-place number [] i x rising here same = cc
without-place number (y ∷ ys) zero x rising here same =
    let first : y ≡ x = cc in
    let one : y.number ≡ number = ap (λ (s : Session). s.number) first ∙ same in
    let test : (y.number == number) ≡ true = eq-eqb y.number number one in
    let above : AreAbove number ys = rw one at rising.0 in
    rw test (sym (without-none number ys (is_open-above number ys above)))
without-place number (y ∷ ys) (suc i) x rising here same =
    rw (before_place number y ys i x rising.0 here same) (ap (λ (l : List Session). y ∷ l) (without-place number ys i x rising.1 here same))

-- the list after a removal at the place
pub without-removed : (number : ℕ) (xs ys : List Session) (i : ℕ) (x : Session) → AreRising xs → slice_get xs i ≡ Some x → x.number ≡ number → ys ≡ take i xs ++ drop (i + 1) xs → ys ≡ without number xs
without-removed number xs ys i x rising here same removed =
    let more : i + 1 ≡ suc i = omega arith in
    removed ∙ ap (λ (n : ℕ). take i xs ++ drop n xs) more ∙ without-place number xs i x rising here same

-- the list after a write at the place
pub with_letter-set : (number : ℕ) (letter : Option Given) (xs : List Session) (i : ℕ) (x : Session) → AreRising xs → slice_get xs i ≡ Some x → x.number ≡ number → set xs i (record { number = number; letter = letter }) ≡ with_letter number letter xs
with_letter-set number letter [] i x rising here same = cc
with_letter-set number letter (y ∷ ys) zero x rising here same =
    let first : y ≡ x = cc in
    let one : y.number ≡ number = ap (λ (s : Session). s.number) first ∙ same in
    let test : (y.number == number) ≡ true = eq-eqb y.number number one in
    let above : AreAbove number ys = rw one at rising.0 in
    let given : Session = record { number = number; letter = letter } in
    rw test (ap (λ (l : List Session). given ∷ l) (sym (with_letter-none number letter ys (is_open-above number ys above))))
with_letter-set number letter (y ∷ ys) (suc i) x rising here same =
    rw (before_place number y ys i x rising.0 here same) (ap (λ (l : List Session). y ∷ l) (with_letter-set number letter ys i x rising.1 here same))

pub letter_of-place : (number : ℕ) (xs : List Session) (i : ℕ) (x : Session) → AreRising xs → slice_get xs i ≡ Some x → x.number ≡ number → letter_of number xs ≡ x.letter
letter_of-place number [] i x rising here same = absurd (cc)
letter_of-place number (y ∷ ys) zero x rising here same =
    let first : y ≡ x = cc in
    let test : (y.number == number) ≡ true = eq-eqb y.number number (ap (λ (s : Session). s.number) first ∙ same) in
    rw test (ap (λ (s : Session). s.letter) first)
letter_of-place number (y ∷ ys) (suc i) x rising here same =
    rw (before_place number y ys i x rising.0 here same) (letter_of-place number ys i x rising.1 here same)

-- ---- what binary search finds

-- if the place that it gives has another session or none, no session has the number
pub is_open-no_place : (number : ℕ) (xs : List Session) (i : ℕ) → AreRising xs → Splits (λ (s : Session). nat_lt s.number number) xs i → ((x : Session) → slice_get xs i ≡ Some x → x.number ≡ number → ⊥) → is_open number xs ≡ false
is_open-no_place number [] i rising splits other = refl
is_open-no_place number (y ∷ ys) zero rising splits other =
    let apart : (y.number == number) ≡ false = ne_eqb y.number number (λ e. other y refl e) in
    let le : number ≤ y.number = ltb-false y.number number splits.0 in
    let lt : number < y.number = omega (arith, eqb-false y.number number apart) in
    rw apart (is_open-above number ys (AreAbove-lower number y.number ys lt rising.0))
is_open-no_place number (y ∷ ys) (suc i) rising splits other =
    rw (differs-below y.number number (ltb-true y.number number splits.0)) (is_open-no_place number ys i rising.1 splits.1 other)

-- ---- they still rise

pub AreAbove-append : (number : ℕ) (xs : List Session) (x : Session) → AreAbove number xs → number < x.number → AreAbove number (xs ++ x ∷ [])
AreAbove-append number [] x above lt = (lt, tt)
AreAbove-append number (y ∷ ys) x above lt = (above.0, AreAbove-append number ys x above.1 lt)

pub AreRising-append : (xs : List Session) (x : Session) → AreRising xs → AreBelow x.number xs → AreRising (xs ++ x ∷ [])
AreRising-append [] x rising below = (tt, tt)
AreRising-append (y ∷ ys) x rising below = (AreAbove-append y.number ys x rising.0 below.0, AreRising-append ys x rising.1 below.1)

pub AreAbove-without : (low number : ℕ) (xs : List Session) → AreAbove low xs → AreAbove low (without number xs)
AreAbove-without low number [] above = tt
AreAbove-without low number (x ∷ xs) above = by (AreAbove-without low number xs above.1) (x.number == number)
  where
    by : AreAbove low (without number xs) → (test : Bool) → AreAbove low (cond (not test) (x ∷ without number xs) (without number xs))
    by rest true = rest
    by rest false = (above.0, rest)

pub AreRising-without : (number : ℕ) (xs : List Session) → AreRising xs → AreRising (without number xs)
AreRising-without number [] rising = tt
AreRising-without number (x ∷ xs) rising = by (AreRising-without number xs rising.1) (x.number == number)
  where
    by : AreRising (without number xs) → (test : Bool) → AreRising (cond (not test) (x ∷ without number xs) (without number xs))
    by rest true = rest
    by rest false = (AreAbove-without x.number number xs rising.0, rest)

-- a session with another letter has its number
pub same_number : (number : ℕ) (letter : Option Given) (x : Session) → (cond (x.number == number) (record { number = number; letter = letter }) x).number ≡ x.number
same_number number letter x = by (x.number == number) refl
  where
    by : (test : Bool) → (x.number == number) ≡ test → (cond test (record { number = number; letter = letter }) x).number ≡ x.number
    by true e = sym (eqb-true x.number number e)
    by false e = refl

pub AreAbove-with_letter : (low number : ℕ) (letter : Option Given) (xs : List Session) → AreAbove low xs → AreAbove low (with_letter number letter xs)
AreAbove-with_letter low number letter [] above = tt
AreAbove-with_letter low number letter (x ∷ xs) above =
    ((let P : ℕ → Type 0 = λ n. low < n in subst P (sym (same_number number letter x)) above.0), AreAbove-with_letter low number letter xs above.1)

pub AreRising-with_letter : (number : ℕ) (letter : Option Given) (xs : List Session) → AreRising xs → AreRising (with_letter number letter xs)
AreRising-with_letter number letter [] rising = tt
AreRising-with_letter number letter (x ∷ xs) rising =
    ((let P : ℕ → Type 0 = λ n. AreAbove n (with_letter number letter xs) in subst P (sym (same_number number letter x)) (AreAbove-with_letter x.number number letter xs rising.0)), AreRising-with_letter number letter xs rising.1)
