-- An answer of a problem whose entries stand in another order is one of the problem.
use Rattle.std.proofs.Common.{◌≡◌, ℕ, zero, suc, ◌+◌, ◌*◌, ◌<◌, ◌≤◌, ◌==◌, ◌≢◌, cond, List, [], ◌∷◌, ◌++◌, length}
use Rattle.std.proofs.Common.{length-append, get_or, Bool, refl, sym, ap, ◌∙◌, inl, inr, arith, eq-eqb, Option, None}
use Rattle.sr_transport.specs.{greatest_charge, sum_below, Transport, consumers}
use Rattle.std.specs.Prelude.{unwrap_or, IfSome}
use Rattle.std.specs.List.{All, sum_by}
use Rattle.std.proofs.lemmas.List.{get_or_append_left, get_or_at, get_or-append-add, get_or-set_same, get_or-set_other}
use Rattle.std.proofs.lemmas.List.Sorted.{length_permutation, All-permutation, sum_by-IsPermutation, IsPermutation-sym}
use Rattle.std.proofs.lemmas.List.Elements.{All-nil, All-push, All-append, All-get_or, All-from_get_or}
use Rattle.std.proofs.lemmas.Bool.{cases_lt, cases_eq, ne_eqb}
use Rattle.std.proofs.lemmas.Map.Keys.{apart_from_distinct, IsDistinct-from_apart, IsDistinct-IsPermutation}
use Rattle.std.proofs.lemmas.Nat.{mul-add-lt}
use Rattle.std.proofs.Math.Nat.{mul_comm}
use Rattle.std.proofs.Math.ListN.{set}
use Rattle.sr_transport.specs.plain.Problem.{IsWithinLimits, room_of, cost_at, cost_of, IsAllowed}
use Rattle.sr_transport.specs.plain.Assignment.{load, IsAssignment}
use Rattle.sr_transport.specs.plain.Certificate.{IsLeast}
use Rattle.sr_transport.proofs.SumLemmas.{sum_below-same, sum_by_below}
use Rattle.sr_solver.specs.declared.stepped.Step.{Step}
use Rattle.sr_solver.specs.Answered.{IsPriced}
use Rattle.sr_solver.specs.Order.{numbers_below, IsOrder, IsReordered, IsRenamed, row_below, rows_below, picked}
use Rattle.sr_solver.specs.Order.{IsPartOf, IsPick}

pub length-numbers_below : (n : ℕ) → length (numbers_below n) ≡ n
length-numbers_below zero = refl
length-numbers_below (suc n) = omega (arith, length-append (numbers_below n) (n ∷ []), length-numbers_below n)

pub numbers_at : (n i d : ℕ) → i < n → get_or (numbers_below n) i d ≡ i
numbers_at zero i d lt = absurd (omega arith)
numbers_at (suc n) i d lt =
    elim (cases_lt i n) [
      | inl earlier ↦
          get_or_append_left (numbers_below n) (n ∷ []) d i (omega (arith, earlier, length-numbers_below n))
          ∙ numbers_at n i d earlier
      | inr later ↦
          let same : i ≡ n = omega arith in
          rw same (get_or_at (numbers_below n) n [] d n (length-numbers_below n))
    ]

pub order_length : (n : ℕ) (order : List ℕ) → IsOrder n order → length order ≡ n
order_length n order is = length_permutation (numbers_below n) order is ∙ length-numbers_below n

pub range_all : (P : ℕ → Type 0) (n : ℕ) → ((i : ℕ) → i < n → P i) → All P (numbers_below n)
range_all P n each = All-from_get_or P (numbers_below n) 0
    (λ i lt. let below : i < n = omega (arith, lt, length-numbers_below n) in
    rw (numbers_at n i 0 below) (each i below))

pub order_below : (n : ℕ) (order : List ℕ) → IsOrder n order → All (λ i. i < n) order
order_below n order is = All-permutation (λ i. i < n) (numbers_below n) order is (range_all (λ i. i < n) n (λ i lt. lt))

-- what holds at each place of the order holds of each number
order_each : (P : ℕ → Type 0) (n : ℕ) (order : List ℕ) → IsOrder n order → ((k : ℕ) → k < n → P (get_or order k 0))
    → (i : ℕ) → i < n → P i
order_each P n order is each i lt =
    let all : All P (numbers_below n) =
    All-permutation P order (numbers_below n) (IsPermutation-sym (numbers_below n) order is)
    (All-from_get_or P order 0 (λ k l. each k (omega (arith, l, order_length n order is)))) in
    rw (numbers_at n i 0 lt) at (All-get_or P (numbers_below n) i 0 (omega (arith, lt, length-numbers_below n)) all)

-- a sum in the order is the sum
order_sum : (f : ℕ → ℕ) (n : ℕ) (order : List ℕ) → IsOrder n order
    → sum_below (λ k. f (get_or order k 0)) n ≡ sum_below f n
order_sum f n order is =
    let in_order : sum_by f order ≡ sum_below (λ k. f (get_or order k 0)) n =
    rw (order_length n order is) at (sum_by_below f order) in
    let rising : sum_by f (numbers_below n) ≡ sum_below (λ k. f (get_or (numbers_below n) k 0)) n =
    rw (length-numbers_below n) at (sum_by_below f (numbers_below n)) in
    let plain : sum_below (λ k. f (get_or (numbers_below n) k 0)) n ≡ sum_below f n =
    sum_below-same (λ k. f (get_or (numbers_below n) k 0)) f n (λ k l. ap f (numbers_at n k 0 l)) in
    omega (arith, in_order, rising, plain, sum_by-IsPermutation f (numbers_below n) order is)

pub eqb_flips : (x y : ℕ) → (x == y) ≡ (y == x)
eqb_flips x y = elim (cases_eq x y) [
  | inl same ↦ eq-eqb x y same ∙ sym (eq-eqb y x (sym same))
  | inr other ↦ ne_eqb x y other ∙ sym (ne_eqb y x (λ e. other (sym e)))
]

-- no number stands at two places
pub order_apart : (n : ℕ) (order : List ℕ) → IsOrder n order → (j k : ℕ) → j < k → k < n
    → get_or order j 0 ≢ get_or order k 0
order_apart n order is j k lt below same =
    let e : ℕ → ℕ → Bool = λ x y. x == y in
    let distinct = IsDistinct-IsPermutation e eqb_flips (numbers_below n) order is
    (IsDistinct-from_apart e (numbers_below n) (λ a b d l lb.
    let bn : b < n = omega (arith, lb, length-numbers_below n) in
    ne_eqb (get_or (numbers_below n) a d) (get_or (numbers_below n) b d)
    (λ eq. omega (arith, eq, l, numbers_at n a d (omega arith), numbers_at n b d bn)))) in
    let apart = apart_from_distinct e order j k 0 distinct lt (omega (arith, below, order_length n order is)) in
    cc (apart, eq-eqb (get_or order j 0) (get_or order k 0) same)

length-row_below : (p : Transport) (i n : ℕ) → length (row_below p i n) ≡ n
length-row_below p i zero = refl
length-row_below p i (suc n) =
    omega (arith, length-append (row_below p i n) (cost_at p i n ∷ []), length-row_below p i n)

row_at : (p : Transport) (i n c : ℕ) → c < n → get_or (row_below p i n) c None ≡ cost_at p i c
row_at p i zero c lt = absurd (omega arith)
row_at p i (suc n) c lt =
    elim (cases_lt c n) [
      | inl earlier ↦
          get_or_append_left (row_below p i n) (cost_at p i n ∷ []) None c
          (omega (arith, earlier, length-row_below p i n)) ∙ row_at p i n c earlier
      | inr later ↦
          let same : c ≡ n = omega arith in
          rw same (get_or_at (row_below p i n) (cost_at p i n) [] None n (length-row_below p i n))
    ]

-- two lists of one length with the same at each place
pub list_same : {X : Type 0} (xs ys : List X) (d : X) → length xs ≡ length ys
    → ((i : ℕ) → i < length xs → get_or xs i d ≡ get_or ys i d) → xs ≡ ys
list_same [] [] d e same = refl
list_same [] (y ∷ ys) d e same = absurd (omega arith)
list_same (x ∷ xs) [] d e same = absurd (omega arith)
list_same (x ∷ xs) (y ∷ ys) d e same =
    let first : x ≡ y = same 0 (omega arith) in
    let rest : xs ≡ ys = list_same xs ys d (omega arith) (λ i lt. same (suc i) (omega arith)) in
    rw first (rw rest refl)

-- a list with the costs of entry i is its row
pub row_is : (p : Transport) (i : ℕ) (row : List (Option ℕ)) → length row ≡ consumers p
    → ((c : ℕ) → c < consumers p → get_or row c None ≡ cost_at p i c) → row ≡ row_below p i (consumers p)
row_is p i row every each =
    list_same row (row_below p i (consumers p)) None (every ∙ sym (length-row_below p i (consumers p)))
    (λ c lt. let below : c < consumers p = omega (arith, lt, every) in each c below
    ∙ sym (row_at p i (consumers p) c below))

pub rows_more : (p : Transport) (order : List ℕ) (k : ℕ)
    → rows_below p order (k + 1) ≡ rows_below p order k ++ row_below p (get_or order k 0) (consumers p)
rows_more p order k = let next : k + 1 ≡ suc k = omega arith in rw next refl

pub length-rows_below : (p : Transport) (order : List ℕ) (k : ℕ) → length (rows_below p order k) ≡ k * consumers p
length-rows_below p order zero = omega arith
length-rows_below p order (suc k) =
    omega (
      arith,
      length-append (rows_below p order k) (row_below p (get_or order k 0) (consumers p)),
      length-rows_below p order k,
      length-row_below p (get_or order k 0) (consumers p),
    )

pub rows_at : (p : Transport) (order : List ℕ) (n k c : ℕ) → k < n → c < consumers p
    → get_or (rows_below p order n) (k * consumers p + c) None ≡ cost_at p (get_or order k 0) c
rows_at p order zero k c lt ltc = absurd (omega arith)
rows_at p order (suc n) k c lt ltc =
    let row : List (Option ℕ) = row_below p (get_or order n 0) (consumers p) in
    elim (cases_lt k n) [
      | inl earlier ↦
          get_or_append_left (rows_below p order n) row None (k * consumers p + c)
          (omega (
            arith,
            length-rows_below p order n,
            mul-add-lt k (consumers p) c n earlier ltc,
            mul_comm (consumers p) n,
          ))
          ∙ rows_at p order n k c earlier ltc
      | inr later ↦
          let same : k ≡ n = omega arith in
          rw same (rw (length-rows_below p order n) at (get_or-append-add (rows_below p order n) row c None)
          ∙ row_at p (get_or order n 0) (consumers p) c ltc)
    ]

-- a cost in the order
pub order_cost : (p q : Transport) (order : List ℕ) → IsReordered p q order → (k c : ℕ) → k < p.entries
    → c < consumers p
    → cost_at q k c ≡ cost_at p (get_or order k 0) c
order_cost p q order re k c lt ltc =
    ap (λ r. get_or q.costs (k * length r + c) None) re.rooms
    ∙ (ap (λ l. get_or l (k * consumers p + c) None) re.costs ∙ rows_at p order p.entries k c lt ltc)

order_cost_of : (p q : Transport) (order : List ℕ) → IsReordered p q order → (k c : ℕ) → k < p.entries → c < consumers p
    → cost_of q k c ≡ cost_of p (get_or order k 0) c
order_cost_of p q order re k c lt ltc =
    let cost : Option ℕ → ℕ = λ o. unwrap_or o 0 in
    ap cost (order_cost p q order re k c lt ltc)

pub same_consumers : (p q : Transport) (order : List ℕ) → IsReordered p q order → consumers q ≡ consumers p
same_consumers p q order re = ap length re.rooms

same_load : (order ys xs : List ℕ) (n c : ℕ) → IsOrder n order → length ys ≡ n → length xs ≡ n → IsRenamed order ys xs n
    → load xs c ≡ load ys c
same_load order ys xs n c is every_y every_x renamed =
    let one : ℕ → ℕ = λ x. cond (x == c) 1 0 in
    let here : sum_by one xs ≡ sum_below (λ i. one (get_or xs i 0)) n = rw every_x at (sum_by_below one xs) in
    let there : sum_by one ys ≡ sum_below (λ i. one (get_or ys i 0)) n = rw every_y at (sum_by_below one ys) in
    let each = sum_below-same (λ k. one (get_or xs (get_or order k 0) 0)) (λ k. one (get_or ys k 0)) n
    (λ k l. ap one (renamed k l)) in
    omega (arith, here, there, each, order_sum (λ i. one (get_or xs i 0)) n order is)

pub renamed_assignment : (p q : Transport) (order ys xs : List ℕ) → IsOrder p.entries order → IsReordered p q order
    → length xs ≡ p.entries → IsRenamed order ys xs p.entries → IsAssignment q ys → IsAssignment p xs
renamed_assignment p q order ys xs is re every renamed assigned =
    let every_y : length ys ≡ p.entries = assigned.every ∙ re.entries in
    record {
      every = every;
      placement = record {
        allowed = λ i lt. order_each (λ j. IsAllowed p j (get_or xs j 0)) p.entries order is
            (λ k l.
            let a = assigned.placement.allowed k (omega (arith, l, every_y)) in
            let is_consumer : get_or ys k 0 < consumers p = omega (arith, a.0, same_consumers p q order re) in
            rw (renamed k l) (is_consumer, rw (order_cost p q order re k (get_or ys k 0) l is_consumer) at a.1))
            i (omega (arith, lt, every));
        in_room = λ c lt.
            omega (
              arith,
              same_load order ys xs p.entries c is every_y every renamed,
              assigned.placement.in_room c (omega (arith, lt, same_consumers p q order re)),
              ap (λ r. get_or r c 0) re.rooms,
            );
      };
    }

pub renamed_priced : (p q : Transport) (s : List Step) (order ys xs prices : List ℕ) → IsOrder p.entries order
    → IsReordered p q order
    → length xs ≡ p.entries → IsRenamed order ys xs p.entries → IsPriced q s ys prices → IsPriced p s xs prices
renamed_priced p q s order ys xs prices is re every renamed shows =
    let assigned = shows.assignment in
    let every_y : length ys ≡ p.entries = assigned.every ∙ re.entries in
    record {
      assignment = renamed_assignment p q order ys xs is re every renamed assigned;
      one_each = shows.one_each ∙ same_consumers p q order re;
      least = λ i lt. order_each (λ j. IsLeast p prices j (get_or xs j 0)) p.entries order is
          (λ k l.
          let in_y : k < length ys = omega (arith, l, every_y) in
          let is_consumer : get_or ys k 0 < consumers p =
          omega (arith, (assigned.placement.allowed k in_y).0, same_consumers p q order re) in
          rw (renamed k l) (λ c allowed.
          omega (
            arith,
            shows.least k in_y c (
              omega (arith, allowed.0, same_consumers p q order re),
              rw (order_cost p q order re k c l allowed.0) allowed.1,
            ),
            order_cost_of p q order re k (get_or ys k 0) l is_consumer,
            order_cost_of p q order re k c l allowed.0,
          )))
          i (omega (arith, lt, every));
      level = λ c lt.
          let loads : load xs c ≡ load ys c = same_load order ys xs p.entries c is every_y every renamed in
          let rooms : room_of p c ≡ room_of q c = sym (ap (λ r. get_or r c 0) re.rooms) in
          rw (loads, rooms) (shows.level c (omega (arith, lt, same_consumers p q order re)));
      small = shows.small;
    }

-- the entries that an order names are within the limits
row_small : (p : Transport) → IsWithinLimits p.rooms p.entries p.costs → (i n : ℕ) → i < p.entries → n ≤ consumers p
    → All (λ cost. IfSome cost (λ c. c ≤ greatest_charge)) (row_below p i n)
row_small p limits i zero lt le = All-nil (λ cost. IfSome cost (λ c. c ≤ greatest_charge))
row_small p limits i (suc n) lt le =
    All-push (λ cost. IfSome cost (λ c. c ≤ greatest_charge)) (row_below p i n) (cost_at p i n)
    (row_small p limits i n lt (omega arith))
    (All-get_or (λ cost. IfSome cost (λ c. c ≤ greatest_charge)) p.costs (i * consumers p + n) None
    (omega (
      arith,
      limits.pairs,
      mul-add-lt i (consumers p) n p.entries lt (omega arith),
      mul_comm (consumers p) p.entries,
    )) limits.small_costs)

rows_small : (p : Transport) → IsWithinLimits p.rooms p.entries p.costs → (order : List ℕ)
    → All (λ i. i < p.entries) order → (n : ℕ) → n ≤ length order
    → All (λ cost. IfSome cost (λ c. c ≤ greatest_charge)) (rows_below p order n)
rows_small p limits order below zero le = All-nil (λ cost. IfSome cost (λ c. c ≤ greatest_charge))
rows_small p limits order below (suc n) le =
    All-append (λ cost. IfSome cost (λ c. c ≤ greatest_charge)) (rows_below p order n)
    (row_below p (get_or order n 0) (consumers p))
    (rows_small p limits order below n (omega arith))
    (row_small p limits (get_or order n 0) (consumers p)
    (All-get_or (λ i. i < p.entries) order n 0 (omega arith) below) (omega arith))

pub part_limits : (p : Transport) (order : List ℕ) → IsWithinLimits p.rooms p.entries p.costs → IsPartOf p order
    → IsWithinLimits p.rooms (length order) (rows_below p order (length order))
part_limits p order limits part = record {
  consumers = limits.consumers;
  few_entries = omega (arith, part.few, limits.few_entries);
  pairs = length-rows_below p order (length order);
  small_rooms = limits.small_rooms;
  small_costs = rows_small p limits order part.entries (length order) (omega arith);
}

-- all entries are picked in an order
pub all_picked : (p : Transport) (rooms order : List ℕ) → IsWithinLimits p.rooms p.entries p.costs
    → rooms ≡ p.rooms → IsOrder p.entries order → IsPick p rooms order
all_picked p rooms order limits same is = record {
  one_each = ap length same;
  small = rw same limits.small_rooms;
  part = record { entries = order_below p.entries order is; few = omega (arith, order_length p.entries order is) };
}

reordered_of : (p : Transport) (order : List ℕ) → IsOrder p.entries order → IsReordered p (picked p p.rooms order) order
reordered_of p order is = record {
  rooms = refl;
  entries = order_length p.entries order is;
  costs = ap (rows_below p order) (order_length p.entries order is);
}

pub picked_reordered : (p q : Transport) (rooms first order : List ℕ) → q ≡ picked p rooms first → rooms ≡ p.rooms
    → first ≡ order → IsOrder p.entries order → IsReordered p q order
picked_reordered p q rooms first order picks same_rooms same_order is =
    rw (picks, same_rooms, same_order) (reordered_of p order is)

-- a number in the order
pub order_at : (n : ℕ) (order : List ℕ) → IsOrder n order → (k : ℕ) → k < n → get_or order k 0 < n
order_at n order is k lt =
    All-get_or (λ i. i < n) order k 0 (omega (arith, lt, order_length n order is)) (order_below n order is)

-- each entry has a place in an answer
pub placed_every : (p q : Transport) (s : List Step) (order ys assigns prices : List ℕ) → IsReordered p q order
    → assigns ≡ ys → IsPriced q s ys prices → length assigns ≡ p.entries
placed_every p q s order ys assigns prices re same priced =
    ap length same ∙ (priced.assignment.every ∙ re.entries)

-- one more is renamed
pub renamed_more : (n : ℕ) (order ys xs : List ℕ) (place : ℕ) → IsOrder n order → length xs ≡ n → place < n
    → IsRenamed order ys xs place
    → IsRenamed order ys (set xs (get_or order place 0) (get_or ys place 0)) (place + 1)
renamed_more n order ys xs place is every lt renamed k below =
    elim (cases_lt k place) [
      | inl earlier ↦
          get_or-set_other xs (get_or order place 0) (get_or order k 0) (get_or ys place 0) 0
          (order_apart n order is k place earlier lt)
          ∙ renamed k earlier
      | inr later ↦
          let same : k ≡ place = omega arith in
          rw same (get_or-set_same xs (get_or order place 0) (get_or ys place 0) 0
          (omega (arith, every, order_at n order is place lt)))
    ]

-- the same of the whole answer, where the lists are known by equations
pub renamed_solution : (p q : Transport) (s : List Step) (order ys zs first orders assigns xs prices : List ℕ)
    → IsOrder p.entries order
    → IsReordered p q first → first ≡ order → orders ≡ order → assigns ≡ ys → xs ≡ zs → length zs ≡ length assigns
    → IsRenamed orders assigns zs (length assigns) → IsPriced q s ys prices → IsPriced p s xs prices
renamed_solution p q s order ys zs first orders assigns xs prices is re_first same_first same_orders same_assigns
    same_xs many renamed_all priced =
    let re : IsReordered p q order = rw same_first at re_first in
    let every_y : length ys ≡ p.entries = priced.assignment.every ∙ re.entries in
    let every : length zs ≡ p.entries = many ∙ (ap length same_assigns ∙ every_y) in
    let renamed : IsRenamed order ys zs p.entries = λ k l.
    ap (λ o. get_or zs (get_or o k 0) 0) (sym same_orders)
    ∙ (renamed_all k (omega (arith, l, many, every)) ∙ ap (λ a. get_or a k 0) same_assigns) in
    rw same_xs (renamed_priced p q s order ys zs prices is re every renamed priced)
