-- A plan that leaves places free fits the group as it is, and goes on to fit while few entries come and go.
use Rattle.std.proofs.Common.{◌≡◌, ℕ, ◌+◌, ◌-◌, ◌*◌, ◌<◌, ◌≤◌, min, List, [], ◌∷◌, map, drop, get_or}
use Rattle.std.proofs.Common.{Option, Some, None, is_some, option_map, inl, inr, refl, sym, ap, ◌∙◌, arith}
use Rattle.std.proofs.Common.{mul-le-mul_left}
use Rattle.std.specs.Prelude.{if◌then◌else◌}
use Rattle.std.specs.Option.{option_map_or}
use Rattle.std.proofs.lemmas.Bool.{cases_lt}
use Rattle.sr_transport.specs.Assignment.{load}
use Rattle.sr_check.specs.{best, IsShown}
use Rattle.sr_policy.specs.declared.live.Live.{Live}
use Rattle.sr_policy.specs.{Text, SnapshotState, problem_of, tier_count}
use Rattle.sr_policy.specs.Snapshot.{IsSnapshot}
use Rattle.sr_live.specs.Bounds.{fee_of, free_load, free_loads, gap_at, gap_from, Fits, HaveRoom}
use Rattle.sr_live.specs.Near.{AreNear}
use Rattle.sr_live.specs.Spare.{after_acks, spared, spared_tier, with_spare}
use Rattle.sr_live.proofs.WorkLemmas.{room-from_problem}

-- ---- within the limits as they are

fee-spared : (limit : ℕ) (tier : Option (ℕ × ℕ))
    → option_map (λ (own : ℕ × ℕ). own.1) (spared_tier limit tier) ≡ option_map (λ (own : ℕ × ℕ). own.1) tier
fee-spared limit None = refl
fee-spared limit (Some tier) = refl

fees-spared : (n : ℕ) (live : List Live) → map fee_of (map (spared n) live) ≡ map fee_of live
fees-spared n [] = refl
fees-spared n (x ∷ live) =
    ap (λ (fee : Option ℕ). (x.name, fee) ∷ map fee_of (map (spared n) live)) (fee-spared (x.limit - n) x.tier)
    ∙ ap (λ (fees : List (Text × Option ℕ)). fee_of x ∷ fees) (fees-spared n live)

room-spared : (n : ℕ) (assign : List ℕ) (c : ℕ) (live : List Live) → HaveRoom assign c (map (spared n) live)
    → HaveRoom assign c live
room-spared n assign c [] room = tt
room-spared n assign c (x ∷ live) room =
    (λ some. omega (arith, room.0 some), room-spared n assign (c + 1) live room.1)

-- what is without a fee, by the limit and what is pending
abbrev free_in : ℕ → ℕ → Option (ℕ × ℕ) → ℕ
free_in limit pending tier = option_map_or (λ (own : ℕ × ℕ). own.0 - pending) tier (limit - pending)

free-spared : (n given limit pending : ℕ) (tier : Option (ℕ × ℕ)) → (0 < given → pending + given ≤ limit - n)
    → min given (free_in (limit - n) pending (spared_tier (limit - n) tier)) ≡ min given (free_in limit pending tier)
free-spared n given limit pending None room =
    elim (cases_lt 0 given) [
      | inl some ↦ omega (arith, room some)
      | inr none ↦ omega arith
    ]
free-spared n given limit pending (Some tier) room =
    elim (cases_lt 0 given) [
      | inl some ↦ omega (arith, room some)
      | inr none ↦ omega arith
    ]

free_loads-spared : (n : ℕ) (assign : List ℕ) (c : ℕ) (live : List Live) → HaveRoom assign c (map (spared n) live)
    → free_loads assign c (map (spared n) live) ≡ free_loads assign c live
free_loads-spared n assign c [] room = refl
free_loads-spared n assign c (x ∷ live) room =
    ap (λ own. own ∷ free_loads assign (c + 1) (map (spared n) live))
    (free-spared n (load assign c) x.limit x.pending x.tier room.0)
    ∙ ap (λ (loads : List ℕ). free_load (load assign c) x ∷ loads) (free_loads-spared n assign (c + 1) live room.1)

room-lower : (n : ℕ) (s : SnapshotState) (assign prices : List ℕ) (total : ℕ) → IsSnapshot (with_spare n s)
    → IsShown (problem_of (with_spare n s)) (best assign prices total) → HaveRoom assign 0 (map (spared n) s.live)
room-lower n s assign prices total snapshot shown =
    room-from_problem (with_spare n s) assign snapshot.bounds.tiers shown.0.assignment.placement.in_room

pub spared-fits : (n : ℕ) (s : SnapshotState) (assign prices : List ℕ) (total : ℕ) → IsSnapshot (with_spare n s)
    → IsShown (problem_of (with_spare n s)) (best assign prices total) → Fits (with_spare n s) s assign
spared-fits n s assign prices total snapshot shown =
    let room = room-lower n s assign prices total snapshot shown in
    record {
      work = record { stranded = refl; rates = refl; live = fees-spared n s.live };
      room = room-spared n assign 0 s.live room;
      free = free_loads-spared n assign 0 s.live room;
    }

-- ---- while few entries come and go

room-near : (n : ℕ) (assign : List ℕ) (c : ℕ) (old now : List Live) → HaveRoom assign c (map (spared n) old)
    → AreNear n old now → HaveRoom assign c now
room-near n assign c [] [] room near = tt
room-near n assign c [] (x ∷ now) room near = absurd near
room-near n assign c (x ∷ old) [] room near = absurd near
room-near n assign c (x ∷ old) (y ∷ now) room near =
    let limit : x.limit ≡ y.limit = ap (λ (terms : Text × ℕ × Option (ℕ × ℕ)). terms.1) near.0.terms in (
      λ some. omega (arith, limit, near.0.more, some, room.0 some),
      room-near n assign (c + 1) old now room.1 near.1,
    )

free-fewer : (limit p q : ℕ) (tier : Option (ℕ × ℕ)) → q ≤ p → free_in limit p tier ≤ free_in limit q tier
free-fewer limit p q None le = omega (arith, le)
free-fewer limit p q (Some tier) le = omega (arith, le)

-- the free places beyond a soft limit
abbrev beyond_in : ℕ → ℕ → ℕ → Option (ℕ × ℕ) → ℕ
beyond_in given limit pending tier =
    limit - pending - free_in limit pending tier - (given - min given (free_in limit pending tier))

beyond-fewer : (given limit p q : ℕ) (tier : Option (ℕ × ℕ)) → q ≤ p
    → beyond_in given limit p tier ≤ beyond_in given limit q tier
beyond-fewer given limit p q None le = omega (arith, le)
beyond-fewer given limit p q (Some tier) le = omega (arith, le)

-- with fewer pending entries the free places are worth as much at least
gap-fewer : (given : ℕ) (prices : List ℕ) (limit p q : ℕ) (tier : Option (ℕ × ℕ)) → q ≤ p
    → get_or prices 0 0 * (free_in limit p tier - min given (free_in limit p tier))
    + get_or prices 1 0 * beyond_in given limit p tier
    ≤ get_or prices 0 0 * (free_in limit q tier - min given (free_in limit q tier))
    + get_or prices 1 0 * beyond_in given limit q tier
gap-fewer given prices limit p q tier le =
    let free : free_in limit p tier - min given (free_in limit p tier)
    ≤ free_in limit q tier - min given (free_in limit q tier) = omega (arith, free-fewer limit p q tier le) in
    omega (
      arith,
      mul-le-mul_left (get_or prices 0 0) free,
      mul-le-mul_left (get_or prices 1 0) (beyond-fewer given limit p q tier le),
    )

gap-near : (n : ℕ) (assign : List ℕ) (c : ℕ) (prices : List ℕ) (old now : List Live) → AreNear n old now
    → gap_from assign c prices now ≤ gap_from assign c prices (map (after_acks n) old)
gap-near n assign c prices [] [] near = omega arith
gap-near n assign c prices [] (x ∷ now) near = absurd near
gap-near n assign c prices (x ∷ old) [] near = absurd near
gap-near n assign c prices (x ∷ old) (y ∷ now) near =
    let limit : x.limit ≡ y.limit = ap (λ (terms : Text × ℕ × Option (ℕ × ℕ)). terms.1) near.0.terms in
    let tier : x.tier ≡ y.tier = ap (λ (terms : Text × ℕ × Option (ℕ × ℕ)). terms.2) near.0.terms in
    let given = load assign c in
    let same : gap_at given prices (record { name = y.name; limit = y.limit; pending = x.pending - n; tier = y.tier })
    ≡ gap_at given prices (after_acks n x) =
    ap (λ limit. gap_at given prices (record { name = y.name; limit = limit; pending = x.pending - n; tier = y.tier }))
    (sym limit)
    ∙ ap (λ (own : Option (ℕ × ℕ)). gap_at given prices (record {
      name = y.name;
      limit = x.limit;
      pending = x.pending - n;
      tier = own;
    })) (sym tier) in
    let own = gap-fewer given prices y.limit y.pending (x.pending - n) y.tier (omega (arith, near.0.fewer)) in
    let count : tier_count x ≡ tier_count y = ap (λ (own : Option (ℕ × ℕ)). if is_some own then 2 else 1) tier in
    let later = gap-near n assign (c + 1) (drop (tier_count y) prices) old now near.1 in
    let rest : gap_from assign (c + 1) (drop (tier_count x) prices) (map (after_acks n) old)
    ≡ gap_from assign (c + 1) (drop (tier_count y) prices) (map (after_acks n) old) =
    ap (λ k. gap_from assign (c + 1) (drop k prices) (map (after_acks n) old)) count in
    omega (arith, own, same, later, rest)

pub near-holds : (n : ℕ) (old now : SnapshotState) (assign prices : List ℕ) (total : ℕ) → IsSnapshot (with_spare n old)
    → IsShown (problem_of (with_spare n old)) (best assign prices total) → AreNear n old.live now.live
    → HaveRoom assign 0 now.live
    × (gap_from assign 0 prices now.live ≤ gap_from assign 0 prices (map (after_acks n) old.live))
near-holds n old now assign prices total snapshot shown near = (
  room-near n assign 0 old.live now.live (room-lower n old assign prices total snapshot shown) near,
  gap-near n assign 0 prices old.live now.live near,
)
