-- Sums over the numbers below a bound: how they compare, and how a sum over a list is one over its values.
use Rattle.std.proofs.Common.{◌≡◌, ℕ, zero, suc, ◌+◌, ◌*◌, ◌<◌, ◌≤◌, ◌==◌, Bool, true, false, cond, List, [], ◌∷◌}
use Rattle.std.proofs.Common.{length, get_or, take, refl, sym, ap, ◌∙◌, inl, inr, arith, eq-eqb}
use Rattle.std.specs.List.{All, sum_by}
use Rattle.std.proofs.Math.Nat.{mul-add}
use Rattle.std.proofs.Math.Seq.{take-length}
use Rattle.std.proofs.lemmas.Bool.{cases_eq, ne_eqb}
use Rattle.std.proofs.lemmas.List.Elements.{All-head, All-tail}
use Rattle.std.proofs.lemmas.List.Sums.{sum_by-cons, sum_by_more}
use Rattle.sr_transport.specs.Sum.{sum_below}
use Rattle.sr_transport.specs.plain.Assignment.{load}

pub sum_below-same : (f g : ℕ → ℕ) (n : ℕ) → ((k : ℕ) → k < n → f k ≡ g k) → sum_below f n ≡ sum_below g n
sum_below-same f g zero h = refl
sum_below-same f g (suc n) h = omega (arith, sum_below-same f g n (λ k l. h k (omega arith)), h n (omega arith))

pub sum_below-le : (f g : ℕ → ℕ) (n : ℕ) → ((k : ℕ) → k < n → f k ≤ g k) → sum_below f n ≤ sum_below g n
sum_below-le f g zero h = omega arith
sum_below-le f g (suc n) h = omega (arith, sum_below-le f g n (λ k l. h k (omega arith)), h n (omega arith))

-- where each pair of terms is at most another pair, so are the sums
pub sum_below-le_pairs : (f g h k : ℕ → ℕ) (n : ℕ) → ((i : ℕ) → i < n → f i + g i ≤ h i + k i)
    → sum_below f n + sum_below g n ≤ sum_below h n + sum_below k n
sum_below-le_pairs f g h k zero le = omega arith
sum_below-le_pairs f g h k (suc n) le =
    omega (arith, sum_below-le_pairs f g h k n (λ i l. le i (omega arith)), le n (omega arith))

-- a sum of terms up to some number
pub sum_below-le_most : (f : ℕ → ℕ) (most n : ℕ) → ((k : ℕ) → k < n → f k ≤ most) → sum_below f n ≤ n * most
sum_below-le_most f most zero h = omega arith
sum_below-le_most f most (suc n) h =
    omega (arith, sum_below-le_most f most n (λ k l. h k (omega arith)), h n (omega arith))

-- a sum over the front of a list, by index, with any element past its end
pub sum_by-take_at : {X : Type 0} (w : X → ℕ) (d : X) (xs : List X) (n : ℕ) → n ≤ length xs
    → sum_by w (take n xs) ≡ sum_below (λ i. w (get_or xs i d)) n
sum_by-take_at w d xs zero le = refl
sum_by-take_at w d xs (suc n) le =
    let more : sum_by w (take (n + 1) xs) ≡ sum_by w (take n xs) + w (get_or xs n d) =
    sum_by_more w xs n d (omega arith) in
    let next : n + 1 ≡ suc n = omega arith in
    omega (arith, rw next at more, sum_by-take_at w d xs n (omega arith))

-- a sum over a list, by index
pub sum_by_at : {X : Type 0} (w : X → ℕ) (d : X) (xs : List X)
    → sum_by w xs ≡ sum_below (λ i. w (get_or xs i d)) (length xs)
sum_by_at w d xs = sym (ap (sum_by w) (take-length xs)) ∙ sum_by-take_at w d xs (length xs) (omega arith)

-- the same over a list of numbers
pub sum_by_below : (w : ℕ → ℕ) (xs : List ℕ) → sum_by w xs ≡ sum_below (λ i. w (get_or xs i 0)) (length xs)
sum_by_below w xs = sum_by_at w 0 xs

-- a shorter sum is no greater
pub sum_below-front_le : (f : ℕ → ℕ) (m n : ℕ) → m ≤ n → sum_below f m ≤ sum_below f n
sum_below-front_le f m zero le = let none : m ≡ 0 = omega arith in rw none (omega arith)
sum_below-front_le f m (suc n) le =
    elim (cases_eq m (suc n)) [
      | inl same ↦ rw same (omega arith)
      | inr other ↦ omega (arith, sum_below-front_le f m n (omega arith))
    ]

-- one number more
pub sum_below_more : (f : ℕ → ℕ) (n total next : ℕ) → total ≡ sum_below f n → f n ≡ next
    → total + next ≡ sum_below f (n + 1)
sum_below_more f n total next sum here = let more : n + 1 ≡ suc n = omega arith in rw more (omega (arith, sum, here))

pub sum_below-zero : (f : ℕ → ℕ) (n : ℕ) → ((k : ℕ) → k < n → f k ≡ 0) → sum_below f n ≡ 0
sum_below-zero f zero h = refl
sum_below-zero f (suc n) h = omega (arith, sum_below-zero f n (λ k l. h k (omega arith)), h n (omega arith))

pub sum_below-plus : (f g : ℕ → ℕ) (n : ℕ) → sum_below (λ k. f k + g k) n ≡ sum_below f n + sum_below g n
sum_below-plus f g zero = refl
sum_below-plus f g (suc n) = omega (arith, sum_below-plus f g n)

-- a sum with one term
pub sum_below-one : (f : ℕ → ℕ) (a n : ℕ) → a < n → ((k : ℕ) → k < n → (k ≡ a → ⊥) → f k ≡ 0) → sum_below f n ≡ f a
sum_below-one f a zero lt none = absurd (omega arith)
sum_below-one f a (suc n) lt none =
    elim (cases_eq a n) [
      | inl same ↦ omega (arith, sum_below-zero f n (λ k l. none k (omega arith) (λ e. omega arith)), ap f same)
      | inr other ↦
          omega (
            arith,
            sum_below-one f a n (omega arith) (λ k l. none k (omega arith)),
            none n (omega arith) (λ e. other (sym e)),
          )
    ]

-- a sum with two terms, one after the other
pub sum_below-two : (f : ℕ → ℕ) (a n : ℕ) → a + 1 < n
    → ((k : ℕ) → k < n → (k ≡ a → ⊥) → (k ≡ a + 1 → ⊥) → f k ≡ 0) → sum_below f n ≡ f a + f (a + 1)
sum_below-two f a zero lt none = absurd (omega arith)
sum_below-two f a (suc n) lt none =
    elim (cases_eq (a + 1) n) [
      | inl same ↦
          omega (
            arith,
            sum_below-one f a n (omega arith) (λ k l ne. none k (omega arith) ne (λ e. omega arith)),
            ap f same,
          )
      | inr other ↦
          omega (
            arith,
            sum_below-two f a n (omega arith) (λ k l. none k (omega arith)),
            none n (omega arith) (λ e. omega arith) (λ e. other (sym e)),
          )
    ]

-- a choice between a sum and nothing
cond-plus : (b : Bool) (m n : ℕ) → cond b (m + n) 0 ≡ cond b m 0 + cond b n 0
cond-plus true m n = refl
cond-plus false m n = refl

cond-none : (b : Bool) → ◌≡◌ {A = ℕ} (cond b 0 0) 0
cond-none true = refl
cond-none false = refl

-- what the terms of c sum to
abbrev pub sum_at : (ℕ → ℕ) → (ℕ → ℕ) → ℕ → ℕ → ℕ
sum_at who w n c = sum_below (λ t. cond (who t == c) (w t) 0) n

term_at_own : (who w : ℕ → ℕ) (counts : ℕ → Bool) (n c : ℕ) → c ≡ who n
    → cond (counts c) (cond (who n == c) (w n) 0) 0 ≡ cond (counts (who n)) (w n) 0
term_at_own who w counts n c own =
    rw own (ap (λ b. cond (counts (who n)) (cond b (w n) 0) 0) (eq-eqb (who n) (who n) refl))

term_at_other : (who w : ℕ → ℕ) (counts : ℕ → Bool) (n c : ℕ) → (c ≡ who n → ⊥)
    → cond (counts c) (cond (who n == c) (w n) 0) 0 ≡ 0
term_at_other who w counts n c other =
    ap (λ b. cond (counts c) (cond b (w n) 0) 0) (ne_eqb (who n) c (λ e. other (sym e))) ∙ cond-none (counts c)

-- terms that count by whose they are, summed for each of these
pub sum_below-grouped : (who w : ℕ → ℕ) (counts : ℕ → Bool) (n m : ℕ) → ((t : ℕ) → t < n → who t < m)
    → sum_below (λ t. cond (counts (who t)) (w t) 0) n ≡ sum_below (λ c. cond (counts c) (sum_at who w n c) 0) m
sum_below-grouped who w counts zero m within =
    sym (sum_below-zero (λ c. cond (counts c) 0 0) m (λ c l. cond-none (counts c)))
sum_below-grouped who w counts (suc n) m within =
    let so_far : ℕ → ℕ = λ c. cond (counts c) (sum_at who w n c) 0 in
    let last : ℕ → ℕ = λ c. cond (counts c) (cond (who n == c) (w n) 0) 0 in
    let all : ℕ → ℕ = λ c. cond (counts c) (sum_at who w (suc n) c) 0 in
    let split : sum_below all m ≡ sum_below (λ c. so_far c + last c) m =
    sum_below-same all (λ c. so_far c + last c) m
    (λ c l. cond-plus (counts c) (sum_at who w n c) (cond (who n == c) (w n) 0)) in
    let one : sum_below last m ≡ last (who n) =
    sum_below-one last (who n) m (within n (omega arith)) (λ c l. term_at_other who w counts n c) in
    omega (
      arith,
      split,
      sum_below-plus so_far last m,
      one,
      term_at_own who w counts n (who n) refl,
      sum_below-grouped who w counts n m (λ t l. within t (omega arith)),
    )

-- the load of a consumer with the first entry, which goes to it or to another
load-cons_same : (x : ℕ) (xs : List ℕ) (c : ℕ) → x ≡ c → load (x ∷ xs) c ≡ 1 + load xs c
load-cons_same x xs c e = sum_by-cons (λ y. cond (y == c) 1 0) x xs ∙ ap (λ b. cond b 1 0 + load xs c) (eq-eqb x c e)

load-cons_other : (x : ℕ) (xs : List ℕ) (c : ℕ) → (x ≡ c → ⊥) → load (x ∷ xs) c ≡ load xs c
load-cons_other x xs c ne =
    let other : load (x ∷ xs) c ≡ 0 + load xs c =
    sum_by-cons (λ y. cond (y == c) 1 0) x xs ∙ ap (λ b. cond b 1 0 + load xs c) (ne_eqb x c ne) in
    omega (arith, other)

below_first : (w : ℕ → ℕ) (x : ℕ) (xs : List ℕ) (n : ℕ) → n ≤ x
    → sum_below (λ c. w c * load (x ∷ xs) c) n ≡ sum_below (λ c. w c * load xs c) n
below_first w x xs n le =
    sum_below-same (λ c. w c * load (x ∷ xs) c) (λ c. w c * load xs c) n
    (λ c l. ap (λ k. w c * k) (load-cons_other x xs c (λ e. omega arith)))

-- the first of a list adds its own weight
past_first : (w : ℕ → ℕ) (x : ℕ) (xs : List ℕ) (n : ℕ) → x < n
    → sum_below (λ c. w c * load (x ∷ xs) c) n ≡ w x + sum_below (λ c. w c * load xs c) n
past_first w x xs zero lt = absurd (omega arith)
past_first w x xs (suc n) lt =
    elim (cases_eq x n) [
      | inl same ↦
          let one : w n * load (x ∷ xs) n ≡ w n * (1 + load xs n) = ap (λ k. w n * k) (load-cons_same x xs n same) in
          omega (arith, one, mul-add (w n) 1 (load xs n), ap w same, below_first w x xs n (omega arith))
      | inr other ↦
          let none : w n * load (x ∷ xs) n ≡ w n * load xs n = ap (λ k. w n * k) (load-cons_other x xs n other) in
          omega (arith, none, past_first w x xs n (omega arith))
    ]

sum_below-no_weight : (w : ℕ → ℕ) (n : ℕ) → sum_below (λ c. w c * 0) n ≡ 0
sum_below-no_weight w zero = refl
sum_below-no_weight w (suc n) = omega (arith, sum_below-no_weight w n)

-- a sum of weights over a list is one over the values: each weight as often as its value stands in the list
pub sum_by-loads : (w : ℕ → ℕ) (m : ℕ) (xs : List ℕ) → All (λ x. x < m) xs
    → sum_by w xs ≡ sum_below (λ c. w c * load xs c) m
sum_by-loads w m [] all = sym (sum_below-no_weight w m)
sum_by-loads w m (x ∷ xs) all =
    omega (
      arith,
      sum_by-cons w x xs,
      past_first w x xs m (All-head (λ y. y < m) x xs all),
      sum_by-loads w m xs (All-tail (λ y. y < m) x xs all),
    )
