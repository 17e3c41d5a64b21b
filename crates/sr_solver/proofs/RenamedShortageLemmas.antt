-- A shortage of a problem whose entries stand in another order names a shortage of the problem.
use Rattle.std.proofs.Common.{◌≡◌, ℕ, ◌+◌, ◌<◌, ◌≤◌, ◌==◌, Bool, true, false, cond, List, length, get_or, refl, sym, ap}
use Rattle.std.proofs.Common.{◌∙◌, arith, eq-eqb}
use Rattle.std.specs.Prelude.{is_some, map}
use Rattle.std.specs.List.{All, Any}
use Rattle.std.specs.List.Sorted.{IsStrictlyIncreasing}
use Rattle.std.proofs.lemmas.Bool.{ne_eqb}
use Rattle.std.proofs.lemmas.List.{length-map, get_or-map}
use Rattle.std.proofs.lemmas.List.Elements.{All-map, All-get_or, All-from_get_or}
use Rattle.std.proofs.lemmas.List.Folds.{list_any_at, Any-from_list_any}
use Rattle.std.proofs.lemmas.List.Kept.{AllPairs-from_increasing}
use Rattle.std.proofs.lemmas.List.Sorted.{length_permutation, All-permutation}
use Rattle.std.proofs.lemmas.Map.Keys.{apart_from_distinct, IsDistinct-from_apart, IsDistinct-IsPermutation}
use Rattle.sr_transport.specs.{sum_below, Transport, consumers}
use Rattle.sr_transport.specs.plain.Problem.{room_of, cost_at}
use Rattle.sr_transport.specs.plain.Certificate.{is_reached, places_of, IsShortage}
use Rattle.sr_transport.proofs.SumLemmas.{sum_below-le}
use Rattle.sr_solver.specs.Order.{IsOrder, IsReordered, AreEntriesAt}
use Rattle.sr_solver.proofs.OrderLemmas.{eqb_flips, order_length, order_at, order_apart, order_cost, same_consumers}

-- the entries at different places are different, so that they rise strictly
entries_rise : (n : ℕ) (order places entries : List ℕ) → IsOrder n order → IsStrictlyIncreasing places
    → All (λ k. k < n) places
    → AreEntriesAt order places entries → IsStrictlyIncreasing entries
entries_rise n order places entries is rising below are k lt =
    let f : ℕ → ℕ = λ place. get_or order place 0 in
    let e : ℕ → ℕ → Bool = λ x y. x == y in
    let distinct = IsDistinct-IsPermutation e eqb_flips (map f places) entries are.moved
    (IsDistinct-from_apart e (map f places) (λ a b d l lb.
    let in_places : b < length places = omega (arith, lb, length-map places f) in
    let first : get_or (map f places) a d ≡ f (get_or places a 0) = get_or-map f places a 0 d (omega arith) in
    let second : get_or (map f places) b d ≡ f (get_or places b 0) = get_or-map f places b 0 d in_places in
    ne_eqb (get_or (map f places) a d) (get_or (map f places) b d)
    (λ eq. order_apart n order is (get_or places a 0) (get_or places b 0)
    (AllPairs-from_increasing places rising a b 0 l in_places)
    (All-get_or (λ i. i < n) places b 0 in_places below) (sym first ∙ (eq ∙ second))))) in
    let apart = apart_from_distinct e entries k (k + 1) 0 distinct (omega arith) lt in
    let le : get_or entries k 0 ≤ get_or entries (k + 1) 0 = are.rising k (k + 1) 0 (omega arith) lt in
    let ne : get_or entries k 0 ≡ get_or entries (k + 1) 0 → ⊥ =
    λ same. cc (apart, eq-eqb (get_or entries k 0) (get_or entries (k + 1) 0) same) in
    omega (arith, le, ne)

cond_le : (b d : Bool) (room : ℕ) → (b ≡ true → d ≡ true) → cond b room 0 ≤ cond d room 0
cond_le true d room h = let is : d ≡ true = h refl in rw is (omega arith)
cond_le false d room h = omega arith

-- the entry stands at one of the places
pub record StandsAt (order places : List ℕ) (i : ℕ) : Type 0 where
  pub index : ℕ
  pub within : index < length places
  pub is : get_or order (get_or places index 0) 0 ≡ i

-- a consumer that the entries reach is reached by the places
reached_there : (p q : Transport) (order places entries : List ℕ) → IsReordered p q order
    → All (λ k. k < p.entries) places
    → AreEntriesAt order places entries → (c : ℕ) → c < consumers p → is_reached p entries c ≡ true
    → is_reached q places c ≡ true
reached_there p q order places entries re below are c lt reached =
    let f : ℕ → ℕ = λ place. get_or order place 0 in
    let all : All (StandsAt order places) entries =
    All-permutation (StandsAt order places) (map f places) entries are.moved
    (All-map (StandsAt order places) f places
    (All-from_get_or (λ k. StandsAt order places (f k)) places 0
    (λ j l. record { index = j; within = l; is = refl }))) in
    let found : Any (λ i. is_some (cost_at p i c) ≡ true) entries =
    Any-from_list_any (λ i. is_some (cost_at p i c)) entries reached in
    let i : ℕ = found.1 in
    let at : get_or entries found.0 i ≡ i = found.3 in
    let stands : StandsAt order places i =
    rw at at (All-get_or (StandsAt order places) entries found.0 i found.2 all) in
    let k : ℕ = get_or places stands.index 0 in
    let same : cost_at q k c ≡ cost_at p i c =
    order_cost p q order re k c (All-get_or (λ j. j < p.entries) places stands.index 0 stands.within below) lt
    ∙ ap (λ j. cost_at p j c) stands.is in
    list_any_at (λ j. is_some (cost_at q j c)) places stands.index 0 stands.within (ap is_some same ∙ found.4)

-- the entries at the places of a shortage are one
pub renamed_shortage : (p q : Transport) (order places entries : List ℕ) → IsOrder p.entries order
    → IsReordered p q order
    → IsShortage q places → AreEntriesAt order places entries → IsShortage p entries
renamed_shortage p q order places entries is re short are =
    let f : ℕ → ℕ = λ place. get_or order place 0 in
    let below : All (λ k. k < p.entries) places = rw re.entries at short.entries in
    let every : length entries ≡ length places =
    length_permutation (map f places) entries are.moved ∙ length-map places f in
    let rooms : (c : ℕ) → room_of q c ≡ room_of p c = λ c. ap (λ r. get_or r c 0) re.rooms in
    let there : places_of q places ≡ sum_below (λ c. cond (is_reached q places c) (room_of q c) 0) (consumers p) =
    ap (sum_below (λ c. cond (is_reached q places c) (room_of q c) 0)) (same_consumers p q order re) in
    let fewer : places_of p entries ≤ sum_below (λ c. cond (is_reached q places c) (room_of q c) 0) (consumers p) =
    sum_below-le (λ c. cond (is_reached p entries c) (room_of p c) 0)
    (λ c. cond (is_reached q places c) (room_of q c) 0) (consumers p)
    (λ c lt. rw (rooms c) (cond_le (is_reached p entries c) (is_reached q places c) (room_of p c)
    (reached_there p q order places entries re below are c lt))) in
    record {
      rising = entries_rise p.entries order places entries is short.rising below are;
      entries = All-permutation (λ i. i < p.entries) (map f places) entries are.moved
          (All-map (λ i. i < p.entries) f places
          (All-from_get_or (λ k. f k < p.entries) places 0
          (λ j l. order_at p.entries order is (get_or places j 0)
          (All-get_or (λ i. i < p.entries) places j 0 l below))));
      too_few = omega (arith, there, fewer, every, short.too_few);
    }

-- the same, where the lists are known by equations
pub renamed_shortage_is : (p q : Transport) (order places first orders sets entries : List ℕ) → IsOrder p.entries order
    → IsReordered p q first → first ≡ order → orders ≡ order → sets ≡ places → IsShortage q places
    → AreEntriesAt orders sets entries
    → IsShortage p entries
renamed_shortage_is p q order places first orders sets entries is re_first same_first same_orders same_sets short are =
    renamed_shortage p q order places entries is (rw same_first at re_first) short
    (rw same_orders at (rw same_sets at are))

-- the places of a shortage are places of the order
pub shortage_places : (p q : Transport) (order places first : List ℕ) → IsOrder p.entries order → IsReordered p q first
    → IsShortage q places → All (λ place. place < length order) places
shortage_places p q order places first is re short k d lt =
    omega (arith, short.entries k d lt, re.entries, order_length p.entries order is)
