-- What the prices and the sets are worth in a problem without tiers: prices that show an assignment show it a cheapest
-- one, and a shortage excludes every assignment.
use Rattle.std.proofs.Common.{◌≡◌, ℕ, zero, suc, ◌+◌, ◌*◌, ◌<◌, ◌≤◌, Bool, true, false, cond, List, ◌-◌, length, get_or}
use Rattle.std.proofs.Common.{take, inl, inr, arith}
use Rattle.std.specs.Prelude.{is_some}
use Rattle.std.specs.List.{All, sum_by, count_by}
use Rattle.std.specs.List.Sorted.{IsStrictlyIncreasing}
use Rattle.std.proofs.Math.Nat.{mul-le-mul_left}
use Rattle.std.proofs.lemmas.Bool.{cases_lt}
use Rattle.std.proofs.lemmas.List.{take-take}
use Rattle.std.proofs.lemmas.List.Elements.{All-from_get_or}
use Rattle.std.proofs.lemmas.List.Sums.{sum_by-take-le, count_by_more_yes}
use Rattle.std.proofs.lemmas.List.Folds.{list_any_at}
use Rattle.sr_transport.specs.plain.Problem.{Transport, consumers, room_of, cost_at, cost_of}
use Rattle.sr_transport.specs.plain.Assignment.{load, IsPlacement, IsAssignment, IsCheapest, HasNoAssignment}
use Rattle.sr_transport.specs.plain.Certificate.{ShowsCheapest, is_reached, IsShortage}
use Rattle.sr_transport.specs.Sum.{sum_below}
use Rattle.sr_transport.proofs.SumLemmas.{sum_below-le, sum_below-le_pairs, sum_by_below, sum_by-loads}

-- the consumers of a placement are consumers
pub placed_below : (p : Transport) (xs : List ℕ) → IsPlacement p xs → All (λ x. x < consumers p) xs
placed_below p xs placement = All-from_get_or (λ x. x < consumers p) xs 0 (λ i lt. (placement.allowed i lt).0)

-- the prices of the consumers of a placement sum to no more than those of the shown one
prices_within : (p : Transport) (xs prices other : List ℕ) → IsPlacement p xs → ShowsCheapest p xs prices
    → IsPlacement p other
    → sum_by (λ c. get_or prices c 0) other ≤ sum_by (λ c. get_or prices c 0) xs
prices_within p xs prices other placement shows placed =
    let price : ℕ → ℕ = λ c. get_or prices c 0 in
    let here = sum_by-loads price (consumers p) xs (placed_below p xs placement) in
    let there = sum_by-loads price (consumers p) other (placed_below p other placed) in
    let each : (c : ℕ) → c < consumers p → price c * load other c ≤ price c * load xs c = λ c lt.
    elim (cases_lt 0 (price c)) [
      | inl above ↦ mul-le-mul_left (price c) (omega (arith, placed.in_room c lt, shows.filled c lt above))
      | inr not_above ↦ let none : price c ≡ 0 = omega arith in rw none (omega arith)
    ] in
    omega (arith, here, there, sum_below-le (λ c. price c * load other c) (λ c. price c * load xs c) (consumers p) each)

-- prices that show an assignment show that no other costs less
pub prices_show_cheapest : (p : Transport) (xs prices : List ℕ) → IsAssignment p xs → ShowsCheapest p xs prices
    → IsCheapest p xs
prices_show_cheapest p xs prices assignment shows other assigned =
    let price : ℕ → ℕ = λ c. get_or prices c 0 in
    let cost : List ℕ → ℕ → ℕ = λ ys i. cost_of p i (get_or ys i 0) in
    let each : (i : ℕ) → i < length xs → cost xs i + price (get_or xs i 0) ≤ cost other i + price (get_or other i 0) =
    λ i lt. shows.least i lt (get_or other i 0)
    (assigned.placement.allowed i (omega (arith, assignment.every, assigned.every))) in
    let sums = sum_below-le_pairs (cost xs) (λ i. price (get_or xs i 0)) (cost other) (λ i. price (get_or other i 0))
    (length xs) each in
    let within = prices_within p xs prices other assignment.placement shows assigned.placement in
    let same : length other ≡ length xs = omega (arith, assignment.every, assigned.every) in
    let here = sum_by_below price xs in
    let there = rw same at (sum_by_below price other) in
    rw same (omega (arith, sums, within, here, there))

-- a longer front of a list has no fewer elements that pass
count_by-take_within : (test : ℕ → Bool) (xs : List ℕ) (m n : ℕ) → m ≤ n
    → count_by test (take m xs) ≤ count_by test (take n xs)
count_by-take_within test xs m n le =
    rw (take-take m n xs le) at (sum_by-take-le (λ x. cond (test x) 1 0) (take n xs) m)

-- one weight in a reached consumer, none elsewhere
cond_both_at : (reached : Bool) (load room : ℕ) → load ≤ room → cond reached 1 0 * load ≤ cond reached room 0
cond_both_at true load room le = omega arith
cond_both_at false load room le = omega arith

-- as many elements of a list pass as there are rising places where one passes
rising_pass : (test : ℕ → Bool) (xs set : List ℕ) → IsStrictlyIncreasing set
    → ((k : ℕ) → k < length set → get_or set k 0 < length xs)
    → ((k : ℕ) → k < length set → test (get_or xs (get_or set k 0) 0) ≡ true)
    → (k : ℕ) → k < length set → k + 1 ≤ count_by test (take (get_or set k 0 + 1) xs)
rising_pass test xs set rising within passes zero lt =
    let one = count_by_more_yes test xs (get_or set 0 0) 0 (within 0 lt) (passes 0 lt) in
    omega (arith, one)
rising_pass test xs set rising within passes (suc k) lt =
    let one = count_by_more_yes test xs (get_or set (suc k) 0) 0 (within (suc k) lt) (passes (suc k) lt) in
    let next : k + 1 ≡ suc k = omega arith in
    let rises : get_or set k 0 < get_or set (suc k) 0 = rw next at (rising k (omega arith)) in
    let before = rising_pass test xs set rising within passes k (omega arith) in
    omega (arith, one, before, count_by-take_within test xs (get_or set k 0 + 1) (get_or set (suc k) 0) (omega arith))

-- no fewer elements of a list pass than there are rising places where one passes
pub rising_places-le : (test : ℕ → Bool) (xs set : List ℕ) → IsStrictlyIncreasing set
    → ((k : ℕ) → k < length set → get_or set k 0 < length xs)
    → ((k : ℕ) → k < length set → test (get_or xs (get_or set k 0) 0) ≡ true)
    → length set ≤ count_by test xs
rising_places-le test xs set rising within passes =
    elim (cases_lt 0 (length set)) [
      | inl some ↦
          let last : ℕ = length set - 1 in
          let upto = rising_pass test xs set rising within passes last (omega arith) in
          omega (arith, upto, sum_by-take-le (λ x. cond (test x) 1 0) xs (get_or set last 0 + 1))
      | inr none ↦ omega arith
    ]

-- no more entries are at the consumers that are reached than these have room for
pub reached_within : (reached : ℕ → Bool) (room : ℕ → ℕ) (n : ℕ) (xs : List ℕ) → All (λ x. x < n) xs
    → ((c : ℕ) → c < n → load xs c ≤ room c)
    → count_by reached xs ≤ sum_below (λ c. cond (reached c) (room c) 0) n
reached_within reached room n xs below in_room =
    let weight : ℕ → ℕ = λ c. cond (reached c) 1 0 in
    let each : (c : ℕ) → c < n → weight c * load xs c ≤ cond (reached c) (room c) 0 = λ c lt.
    cond_both_at (reached c) (load xs c) (room c) (in_room c lt) in
    let counted = sum_by-loads weight n xs below in
    omega (arith, counted, sum_below-le (λ c. weight c * load xs c) (λ c. cond (reached c) (room c) 0) n each)

-- a shortage excludes every assignment
pub shortage_excludes : (p : Transport) (set : List ℕ) → IsShortage p set → HasNoAssignment p
shortage_excludes p set shortage xs assignment =
    let entry_in : (k : ℕ) → k < length set → get_or set k 0 < length xs =
    λ k lt. omega (arith, shortage.entries k 0 lt, assignment.every) in
    let reached : (k : ℕ) → k < length set → is_reached p set (get_or xs (get_or set k 0) 0) ≡ true =
    λ k lt. list_any_at (λ i. is_some (cost_at p i (get_or xs (get_or set k 0) 0))) set k 0 lt
    (assignment.placement.allowed (get_or set k 0) (entry_in k lt)).1 in
    let many = rising_places-le (is_reached p set) xs set shortage.rising entry_in reached in
    let few = reached_within (is_reached p set) (room_of p) (consumers p) xs
    (placed_below p xs assignment.placement) assignment.placement.in_room in
    omega (arith, many, few, shortage.too_few)
