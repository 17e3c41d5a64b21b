-- What stands at a place of an order is what stands at its entry, and other rooms change no pair.
use Rattle.std.proofs.Common.{◌≡◌, ℕ, zero, suc, ◌+◌, ◌*◌, ◌<◌, ◌≤◌, List, length, get_or, Option, Some, None, refl, sym}
use Rattle.std.proofs.Common.{ap, ◌∙◌, arith}
use Rattle.std.specs.Prelude.{IfSome}
use Rattle.std.proofs.Common.{take, drop}
use Rattle.std.proofs.Common.{◌-◌, Bool, false}
use Rattle.std.specs.Prelude.{IsTrue}
use Rattle.std.proofs.lemmas.Bool.{false≢true}
use Rattle.std.proofs.lemmas.List.{get_or-take, get_or-drop, get_or_default}
use Rattle.std.proofs.lemmas.List.Elements.{All-get_or}
use Rattle.std.proofs.lemmas.Nat.{mul-add-lt}
use Rattle.std.proofs.Math.Nat.{mul_comm, mul-le-mul_right}
use Rattle.sr_transport.specs.{Transport, consumers}
use Rattle.sr_transport.specs.plain.Problem.{IsWithinLimits, cost_at, IsAllowed}
use Rattle.sr_solver.specs.declared.costs.Pairs.{Pairs}
use Rattle.sr_solver.specs.declared.pairs.Pair.{Pair}
use Rattle.sr_solver.specs.declared.set.ConsumerSet.{ConsumerSet}
use Rattle.sr_solver.specs.Order.{row_below, rows_below, picked, IsPartOf, IsPick, shown, entry_at}
use Rattle.sr_solver.specs.Pairs.{IsRowOf, set_at, ArePairsOf, AreCosts}
use Rattle.sr_solver.specs.Sets.{IsIn}
use Rattle.sr_solver.proofs.OrderLemmas.{rows_at, part_limits}

-- the limits
part_of_limits : (p : Transport) (order : Option (List ℕ)) → IsWithinLimits p.rooms p.entries p.costs
    → IfSome order (IsPartOf p)
    → IsWithinLimits (shown p order).rooms (shown p order).entries (shown p order).costs
part_of_limits p None limits part = limits
part_of_limits p (Some order) limits part = part_limits p order limits part

pub shown_limits : (p q : Transport) (n : ℕ) (order : Option (List ℕ)) (pairs : Option Pairs) → AreCosts p n order pairs
    → shown p order ≡ q → IsWithinLimits q.rooms q.entries q.costs
shown_limits p q n order pairs are is = rw is at (part_of_limits p order are.limits are.part)

same_consumers : (p : Transport) (order : Option (List ℕ)) → consumers (shown p order) ≡ consumers p
same_consumers p None = refl
same_consumers p (Some order) = refl

shown_consumers : (p q : Transport) (order : Option (List ℕ)) → shown p order ≡ q → consumers q ≡ consumers p
shown_consumers p q order is = rw is at (same_consumers p order)

-- the entry at a place
part_entry : (p : Transport) (order : Option (List ℕ)) → IfSome order (IsPartOf p) → (k : ℕ)
    → k < (shown p order).entries → entry_at order k < p.entries
part_entry p None part k lt = lt
part_entry p (Some order) part k lt = All-get_or (λ i. i < p.entries) order k 0 lt part.entries

shown_entry : (p q : Transport) (n : ℕ) (order : Option (List ℕ)) (pairs : Option Pairs) → AreCosts p n order pairs
    → shown p order ≡ q → (k i : ℕ) → k < q.entries → i ≡ entry_at order k → i < p.entries
shown_entry p q n order pairs are is k i lt at = rw at (part_entry p order are.part k (rw is lt))

-- a cost
part_cost : (p : Transport) (order : Option (List ℕ)) (k c : ℕ) → k < (shown p order).entries → c < consumers p
    → cost_at p (entry_at order k) c ≡ cost_at (shown p order) k c
part_cost p None k c lt ltc = refl
part_cost p (Some order) k c lt ltc = sym (rows_at p order (length order) k c lt ltc)

pub shown_cost : (p q : Transport) (order : Option (List ℕ)) → shown p order ≡ q → (k i c : ℕ) → k < q.entries
    → c < consumers q → i ≡ entry_at order k → cost_at p i c ≡ cost_at q k c
shown_cost p q order is k i c lt ltc at =
    rw (at, ← is) (part_cost p order k c (rw is lt) (omega (arith, ltc, shown_consumers p q order is)))

-- its place in the list
pub shown_place : (p q : Transport) (n : ℕ) (order : Option (List ℕ)) (pairs : Option Pairs) → AreCosts p n order pairs
    → shown p order ≡ q → (k i c : ℕ) → k < q.entries → c < consumers q → i ≡ entry_at order k
    → i * consumers p + c < length p.costs
shown_place p q n order pairs are is k i c lt ltc at =
    omega (
      arith,
      are.limits.pairs,
      mul-add-lt i (consumers p) c p.entries (shown_entry p q n order pairs are is k i lt at)
          (omega (arith, ltc, shown_consumers p q order is)),
      mul_comm (consumers p) p.entries,
    )

-- where the costs of an entry end
pub shown_end : (p q : Transport) (n : ℕ) (order : Option (List ℕ)) (pairs : Option Pairs) → AreCosts p n order pairs
    → shown p order ≡ q → (k i : ℕ) → k < q.entries → i ≡ entry_at order k
    → i * consumers p + consumers p ≤ length p.costs
shown_end p q n order pairs are is k i lt at =
    let below : i < p.entries = shown_entry p q n order pairs are is k i lt at in
    let up : (i + 1) * consumers p ≤ p.entries * consumers p = mul-le-mul_right (consumers p) (omega (arith, below)) in
    omega (arith, are.limits.pairs, up)

-- the costs of an entry
pub shown_costs : (p q : Transport) (order : Option (List ℕ)) → shown p order ≡ q → (k i n : ℕ) → k < q.entries
    → i ≡ entry_at order k → n ≡ consumers p → (c : ℕ) → c < consumers q
    → get_or (take n (drop (i * consumers p) p.costs)) c None ≡ cost_at q k c
shown_costs p q order is k i n lt at many c ltc =
    get_or-take n (drop (i * consumers p) p.costs) c None (omega (arith, many, ltc, shown_consumers p q order is))
    ∙ (get_or-drop (i * consumers p) p.costs c None ∙ shown_cost p q order is k i c lt ltc at)

shown_allowed : (p q : Transport) (order : Option (List ℕ)) → shown p order ≡ q → (k i c : ℕ) → k < q.entries
    → i ≡ entry_at order k → IsAllowed q k c → IsAllowed p i c
shown_allowed p q order is k i c lt at allowed = (
  omega (arith, allowed.0, shown_consumers p q order is),
  rw (shown_cost p q order is k i c lt allowed.0 at) allowed.1,
)

-- a row
shown_row : (p q : Transport) (order : Option (List ℕ)) → shown p order ≡ q → (k i : ℕ) (row : List Pair)
    → k < q.entries → i ≡ entry_at order k → IsRowOf p i row → IsRowOf q k row
shown_row p q order is k i row lt at row_is = record {
  consumer = λ j ltj. omega (arith, row_is.consumer j ltj, shown_consumers p q order is);
  cost = λ j ltj.
      sym (shown_cost p q order is k i _ lt (omega (arith, row_is.consumer j ltj, shown_consumers p q order is)) at)
      ∙ row_is.cost j ltj;
  rising = row_is.rising;
  each = λ c allowed. row_is.each c (shown_allowed p q order is k i c lt at allowed);
}

-- the row of an entry, as it is read
pub shown_pairs : (p q : Transport) (n : ℕ) (order : Option (List ℕ)) (pairs : Option Pairs) (kept : Pairs) (rows : List Pair)
    → AreCosts p n order pairs → shown p order ≡ q → ArePairsOf p kept → (k i first end : ℕ) → k < q.entries
    → i ≡ entry_at order k → first ≡ get_or kept.starts.items i first → end ≡ get_or kept.starts.items (i + 1) end
    → rows ≡ kept.pairs.items → IsRowOf q k (take (end - first) (drop first rows))
shown_pairs p q n order pairs kept rows are is kept_is k i first end lt at first_is end_is rows_are =
    let below : i < p.entries = shown_entry p q n order pairs are is k i lt at in
    let many = kept_is.rows.one_each in
    let begins : first ≡ get_or kept.starts.items i 0 =
    first_is ∙ get_or_default kept.starts.items i first 0 (omega (arith, below, many)) in
    let ends : end ≡ get_or kept.starts.items (i + 1) 0 =
    end_is ∙ get_or_default kept.starts.items (i + 1) end 0 (omega (arith, below, many)) in
    shown_row p q order is k i _ lt at (rw (begins, ends, rows_are) (kept_is.rows.each i below))

-- a consumer that is not in the set of an entry, as it is read, is not allowed
pub shown_out : (p q : Transport) (n : ℕ) (order : Option (List ℕ)) (pairs : Option Pairs) (kept : Pairs) (set : ConsumerSet)
    (has : Bool) → AreCosts p n order pairs → shown p order ≡ q → ArePairsOf p kept → (k i c : ℕ) → k < q.entries
    → i ≡ entry_at order k → set ≡ get_or kept.sets.items i set → (IsIn set c → IsTrue has) → has ≡ false
    → IsAllowed q k c → ⊥
shown_out p q n order pairs kept set has are is kept_is k i c lt at set_is tells is_out allowed =
    let below : i < p.entries = shown_entry p q n order pairs are is k i lt at in
    let same : set ≡ set_at kept.sets.items i =
    set_is ∙ get_or_default kept.sets.items i set (record { bits = 0 }) (omega (arith, below, kept_is.sets.one_each)) in
    let here : IsIn (set_at kept.sets.items i) c = kept_is.sets.each i c (shown_allowed p q order is k i c lt at allowed) in
    false≢true (sym is_out ∙ tells (rw same here))

-- p with other rooms
abbrev pub with_rooms : Transport → List ℕ → Transport
with_rooms p rooms = record { rooms = rooms; entries = p.entries; costs = p.costs }

rooms_cost : (p : Transport) (rooms : List ℕ) → length rooms ≡ consumers p → (i c : ℕ)
    → cost_at (with_rooms p rooms) i c ≡ cost_at p i c
rooms_cost p rooms one i c = ap (λ n. get_or p.costs (i * n + c) None) one

rooms_allowed : (p : Transport) (rooms : List ℕ) → length rooms ≡ consumers p → (i c : ℕ)
    → IsAllowed (with_rooms p rooms) i c → IsAllowed p i c
rooms_allowed p rooms one i c allowed =
    (omega (arith, allowed.0, one), rw (rooms_cost p rooms one i c) at allowed.1)

rooms_row : (p : Transport) (rooms : List ℕ) (i : ℕ) (pairs : List Pair) → length rooms ≡ consumers p
    → IsRowOf p i pairs → IsRowOf (with_rooms p rooms) i pairs
rooms_row p rooms i pairs one row = record {
  consumer = λ j lt. omega (arith, row.consumer j lt, one);
  cost = λ j lt. rooms_cost p rooms one i _ ∙ row.cost j lt;
  rising = row.rising;
  each = λ c allowed. row.each c (rooms_allowed p rooms one i c allowed);
}

rooms_pairs : (p : Transport) (rooms : List ℕ) (kept : Pairs) → length rooms ≡ consumers p → ArePairsOf p kept
    → ArePairsOf (with_rooms p rooms) kept
rooms_pairs p rooms kept one are = record {
  few = omega (arith, are.few, one);
  rows = record {
    one_each = are.rows.one_each;
    all = are.rows.all;
    within = are.rows.within;
    each = λ i lt. rooms_row p rooms i _ one (are.rows.each i lt);
  };
  sets = record {
    one_each = are.sets.one_each;
    each = λ i c allowed. are.sets.each i c (rooms_allowed p rooms one i c allowed);
  };
}

rooms_kept : (p : Transport) (rooms : List ℕ) (pairs : Option Pairs) → length rooms ≡ consumers p
    → IfSome pairs (ArePairsOf p) → IfSome pairs (ArePairsOf (with_rooms p rooms))
rooms_kept p rooms None one kept = tt
rooms_kept p rooms (Some pairs) one kept = rooms_pairs p rooms pairs one kept

-- entries that are picked
part_costs : (p : Transport) (rooms order : List ℕ) (pairs : Option Pairs) → IsPick p rooms order
    → AreCosts p p.entries None pairs → AreCosts (with_rooms p rooms) (length order) (Some order) pairs
part_costs p rooms order pairs pick are = record {
  count = refl;
  limits = record {
    consumers = omega (arith, are.limits.consumers, pick.one_each);
    few_entries = are.limits.few_entries;
    pairs = are.limits.pairs ∙ ap (λ n. p.entries * n) (sym pick.one_each);
    small_rooms = pick.small;
    small_costs = are.limits.small_costs;
  };
  part = record { entries = pick.part.entries; few = pick.part.few };
  kept = rooms_kept p rooms pairs pick.one_each are.kept;
}

pub picked_costs : (p q : Transport) (rooms order : List ℕ) (pairs kept : Option Pairs) → AreCosts p p.entries None pairs
    → p ≡ q → IsPick q rooms order → kept ≡ pairs → AreCosts (with_rooms p rooms) (length order) (Some order) kept
picked_costs p q rooms order pairs kept are same pick e = rw e (part_costs p rooms order pairs (rw same pick) are)

rooms_row_below : (p : Transport) (rooms : List ℕ) → length rooms ≡ consumers p → (i n : ℕ)
    → row_below (with_rooms p rooms) i n ≡ row_below p i n
rooms_row_below p rooms one i zero = refl
rooms_row_below p rooms one i (suc n) = rw (rooms_row_below p rooms one i n, rooms_cost p rooms one i n) refl

rooms_rows_below : (p : Transport) (rooms order : List ℕ) → length rooms ≡ consumers p → (n : ℕ)
    → rows_below (with_rooms p rooms) order n ≡ rows_below p order n
rooms_rows_below p rooms order one zero = refl
rooms_rows_below p rooms order one (suc n) =
    rw (rooms_rows_below p rooms order one n, one, rooms_row_below p rooms one (get_or order n 0) (consumers p)) refl

pub picked_shown : (p q : Transport) (rooms order : List ℕ) → p ≡ q → IsPick q rooms order
    → shown (with_rooms p rooms) (Some order) ≡ picked q rooms order
picked_shown p q rooms order same pick =
    let one : length rooms ≡ consumers p = rw same pick.one_each in
    let of_costs : List (Option ℕ) → Transport = λ costs. record { rooms = rooms; entries = length order; costs = costs } in
    rw (← same) (ap of_costs (rooms_rows_below p rooms order one (length order)))
