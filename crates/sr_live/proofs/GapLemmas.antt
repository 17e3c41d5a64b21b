-- The gap of an assignment is what the free places of its tiers are worth, added up by consumer.
use Rattle.std.proofs.Common.{◌≡◌, ℕ, zero, suc, ◌+◌, ◌-◌, ◌*◌, ◌<◌, ◌≤◌, min, List, [], ◌∷◌, ◌++◌, length, get_or}
use Rattle.std.proofs.Common.{take, drop, Option, Some, None, IsSome, refl, sym, ap, ◌∙◌, arith}
use Rattle.std.proofs.Common.{get_or-append-add, get_or-drop, length-append, mul-zero}
use Rattle.std.proofs.lemmas.List.Sums.{sum_by-cons}
use Rattle.sr_transport.specs.declared.problem.Tier.{Tier}
use Rattle.sr_transport.specs.{sum_below, first_in, tier_at}
use Rattle.sr_transport.specs.Assignment.{load, tiers_of, IsPlacement}
use Rattle.sr_transport.proofs.SumLemmas.{sum_below-same}
use Rattle.sr_transport.proofs.TierLemmas.{load-first, load-next, no_tier}
use Rattle.sr_policy.specs.declared.live.Live.{Live}
use Rattle.sr_policy.specs.{SnapshotState, problem_of, room_at, tier_count}
use Rattle.sr_policy.specs.Problem.{free_room, next_tier, tiers_at, tiers_from}
use Rattle.sr_policy.proofs.ProblemLemmas.{are_tiers, first_in-live, length-tiers_at}
use Rattle.sr_live.specs.Bounds.{free_load, gap_at, gap_from, gap_of}
use Rattle.sr_live.proofs.LackLemmas.{lack_of}
use Rattle.sr_live.proofs.AlikeLemmas.{first_room}
use Rattle.sr_live.proofs.TiersLemmas.{all_is_free, first_room-live, next_is_own, start_of}

-- what the free places of tier t are worth, if loads t entries are in it
abbrev worth : List ℕ → List Tier → (ℕ → ℕ) → ℕ → ℕ
worth prices tiers loads t = get_or prices t 0 * ((tier_at tiers t).room - loads t)

-- loads t entries are in tier t, counted from the first tier of consumer c
record AreLoads (assign : List ℕ) (c : ℕ) (live : List Live) (loads : ℕ → ℕ) : Type 0 where
  first : (i : ℕ) (d : Live) → i < length live
      → loads (start_of live i + 0) ≡ free_load (load assign (c + i)) (get_or live i d)
  next : (i : ℕ) (d : Live) → i < length live → IsSome (get_or live i d).tier
      → loads (start_of live i + 1)
      ≡ load assign (c + i) - free_load (load assign (c + i)) (get_or live i d)

-- ---- the tiers of one consumer

-- these tiers, after a first one with the free room of the consumer
abbrev after_first : ℕ → Live → List Tier → List Tier
after_first c x tiers = record { consumer = c; room = free_room x; fee = 0 } ∷ tiers

own_gap : (c given : ℕ) (x : Live) (tier : Option (ℕ × ℕ)) (rest : List Tier) (prices : List ℕ) (loads : ℕ → ℕ)
    → (tier ≡ None → room_at x ≤ free_room x)
    → loads 0 ≡ free_load given x
    → (IsSome tier → loads 1 ≡ given - free_load given x)
    → sum_below (worth prices (after_first c x (next_tier c x tier ++ rest)) loads) (suc (length (next_tier c x tier)))
    ≡ gap_at given prices x
own_gap c given x None rest prices loads free first next =
    let here = ap (λ n. get_or prices 0 0 * (free_room x - n)) first in
    let none : room_at x - free_room x - (given - free_load given x) ≡ 0 = omega (arith, free refl) in
    let nothing = ap (λ n. get_or prices 1 0 * n) none ∙ mul-zero (get_or prices 1 0) in
    omega (arith, here, nothing)
own_gap c given x (Some tier) rest prices loads free first next =
    let here = ap (λ n. get_or prices 0 0 * (free_room x - n)) first in
    let there = ap (λ n. get_or prices 1 0 * (room_at x - free_room x - n)) (next refl) in
    omega (arith, here, there)

-- ---- the tiers of all consumers

sum_below-append : (f : ℕ → ℕ) (m n : ℕ) → sum_below f (m + n) ≡ sum_below f m + sum_below (λ k. f (m + k)) n
sum_below-append f m zero = let e : m + 0 ≡ m = omega arith in ap (sum_below f) e ∙ omega arith
sum_below-append f m (suc n) =
    let e : m + suc n ≡ suc (m + n) = omega arith in
    ap (sum_below f) e ∙ omega (arith, sum_below-append f m n)

-- the tiers of the later consumers
loads-tail : (assign : List ℕ) (c : ℕ) (x : Live) (live : List Live) (loads : ℕ → ℕ)
    → AreLoads assign c (x ∷ live) loads → AreLoads assign (c + 1) live (λ k. loads (tier_count x + k))
loads-tail assign c x live loads are = record {
  first = λ i d lt.
      let e : c + suc i ≡ c + 1 + i = omega arith in
      let place : tier_count x + (start_of live i + 0) ≡ start_of (x ∷ live) (suc i) + 0 =
      omega (arith, sum_by-cons tier_count x (take i live)) in
      ap loads place ∙ are.first (suc i) d (omega arith) ∙ ap (λ n. free_load (load assign n) (get_or live i d)) e;
  next = λ i d lt some.
      let e : c + suc i ≡ c + 1 + i = omega arith in
      let place : tier_count x + (start_of live i + 1) ≡ start_of (x ∷ live) (suc i) + 1 =
      omega (arith, sum_by-cons tier_count x (take i live)) in
      ap loads place ∙ are.next (suc i) d (omega arith) some
      ∙ ap (λ n. load assign n - free_load (load assign n) (get_or live i d)) e;
}

later_worth : (prices : List ℕ) (own rest : List Tier) (loads : ℕ → ℕ) (m k : ℕ) → length own ≡ m
    → worth prices (own ++ rest) loads (length own + k) ≡ worth (drop m prices) rest (λ n. loads (m + n)) k
later_worth prices own rest loads m k is =
    let price : get_or prices (length own + k) 0 ≡ get_or (drop m prices) k 0 =
    ap (λ n. get_or prices (n + k) 0) is ∙ sym (get_or-drop m prices k 0) in
    let tier = get_or-append-add own rest k no_tier in
    ap (λ n. n * ((tier_at (own ++ rest) (length own + k)).room - loads (length own + k))) price
    ∙ ap (λ (t : Tier). get_or (drop m prices) k 0 * (t.room - loads (length own + k))) tier
    ∙ ap (λ n. get_or (drop m prices) k 0 * ((tier_at rest k).room - loads (n + k))) is

gap_from-sum : (assign : List ℕ) (c : ℕ) (prices : List ℕ) (live : List Live) (loads : ℕ → ℕ)
    → AreLoads assign c live loads
    → gap_from assign c prices live ≡ sum_below (worth prices (tiers_from c live) loads) (length (tiers_from c live))
gap_from-sum assign c prices [] loads are = refl
gap_from-sum assign c prices (x ∷ live) loads are =
    let given = load assign c in
    let own = tiers_at c x in
    let rest = tiers_from (c + 1) live in
    let all = worth prices (own ++ rest) loads in
    let later : ℕ → ℕ = λ k. loads (tier_count x + k) in
    let e : c + 0 ≡ c = omega arith in
    let first : loads 0 ≡ free_load given x =
    are.first 0 x (omega arith) ∙ ap (λ n. free_load (load assign n) x) e in
    let next : IsSome x.tier → loads 1 ≡ given - free_load given x =
    λ some. are.next 0 x (omega arith) some ∙ ap (λ n. load assign n - free_load (load assign n) x) e in
    let here = own_gap c given x x.tier rest prices loads (all_is_free x) first next in
    let there = gap_from-sum assign (c + 1) (drop (tier_count x) prices) live later
    (loads-tail assign c x live loads are) in
    let after = sum_below-same (λ k. all (length own + k)) (worth (drop (tier_count x) prices) rest later) (length rest)
    (λ k lt. later_worth prices own rest loads (tier_count x) k (length-tiers_at c x)) in
    omega (
      arith,
      here,
      there,
      after,
      sum_below-append all (length own) (length rest),
      ap (sum_below all) (length-append own rest),
    )

-- ---- the gap of a snapshot

loads-live : (s : SnapshotState) (assign : List ℕ) → IsPlacement (problem_of s) assign
    → AreLoads assign 0 s.live (load (tiers_of (problem_of s) assign))
loads-live s assign placed =
    let p = problem_of s in
    let loads : ℕ → ℕ = load (tiers_of p assign) in
    record {
      first = λ i d lt.
          let e : 0 + i ≡ i = omega arith in
          let place : start_of s.live i + 0 ≡ first_in p.tiers i = omega (arith, first_in-live s i) in
          ap loads place ∙ load-first p assign i (are_tiers s.live) placed lt
          ∙ ap (min (load assign i)) (first_room-live s i d lt)
          ∙ ap (λ n. free_load (load assign n) (get_or s.live i d)) (sym e);
      next = λ i d lt some.
          let e : 0 + i ≡ i = omega arith in
          let place : start_of s.live i + 1 ≡ first_in p.tiers i + 1 = omega (arith, first_in-live s i) in
          let beyond : load assign i - first_room p i ≡ load assign i - free_load (load assign i) (get_or s.live i d) =
          omega (arith, first_room-live s i d lt) in
          ap loads place ∙ load-next p assign i (are_tiers s.live) placed lt (next_is_own s i d lt some) ∙ beyond
          ∙ ap (λ n. load assign n - free_load (load assign n) (get_or s.live i d)) (sym e);
    }

pub gap_of-lack : (s : SnapshotState) (assign prices : List ℕ) → IsPlacement (problem_of s) assign
    → gap_of s assign prices ≡ lack_of (problem_of s) assign prices
gap_of-lack s assign prices placed =
    gap_from-sum assign 0 prices s.live (load (tiers_of (problem_of s) assign)) (loads-live s assign placed)
