-- Where the tiers of each live consumer are in the problem of a snapshot, and what room they have.
use Rattle.std.proofs.Common.{◌≡◌, ℕ, zero, suc, ◌+◌, ◌-◌, ◌<◌, ◌≤◌, List, [], ◌∷◌, ◌++◌, length, get_or, take, Option}
use Rattle.std.proofs.Common.{Some, None, IsSome, true≢false, ◌⊎◌, inl, inr, refl, sym, ap, ◌∙◌, subst, arith}
use Rattle.std.proofs.Common.{get_or-append-add}
use Rattle.std.specs.List.{sum_by}
use Rattle.std.specs.Option.{option_map_or}
use Rattle.std.proofs.lemmas.List.Sums.{sum_by-cons}
use Rattle.sr_transport.specs.declared.problem.Tier.{Tier}
use Rattle.sr_transport.specs.{first_in, tier_at}
use Rattle.sr_transport.specs.Problem.{room_of}
use Rattle.sr_transport.proofs.TierLemmas.{no_tier, room_in-own, room_of-tiers}
use Rattle.sr_policy.specs.declared.live.Live.{Live}
use Rattle.sr_policy.specs.{SnapshotState, problem_of, room_at, tier_count}
use Rattle.sr_policy.specs.Problem.{free_room, next_tier, tiers_at, tiers_from}
use Rattle.sr_policy.proofs.ProblemLemmas.{are_tiers, first_in-live, length-tiers_at}
use Rattle.sr_live.proofs.AlikeLemmas.{first_room}

-- where the tiers of the consumer with number i begin
abbrev pub start_of : List Live → ℕ → ℕ
start_of live i = sum_by tier_count (take i live)

-- the place of a later consumer's tier, after those of the first
place_after : (c : ℕ) (x : Live) (live : List Live) (i k : ℕ)
    → start_of (x ∷ live) (suc i) + k ≡ length (tiers_at c x) + (start_of live i + k)
place_after c x live i k = omega (arith, sum_by-cons tier_count x (take i live), length-tiers_at c x)

tier_after : (c : ℕ) (x : Live) (live : List Live) (i k : ℕ)
    → tier_at (tiers_from c (x ∷ live)) (start_of (x ∷ live) (suc i) + k)
    ≡ tier_at (tiers_from (c + 1) live) (start_of live i + k)
tier_after c x live i k =
    ap (tier_at (tiers_from c (x ∷ live))) (place_after c x live i k)
    ∙ get_or-append-add (tiers_at c x) (tiers_from (c + 1) live) (start_of live i + k) no_tier

-- this is the first tier of the consumer with number c
record IsFirst (c : ℕ) (consumer : Live) (tier : Tier) : Type 0 where
  own : tier.consumer ≡ c
  room : tier.room ≡ free_room consumer

-- this is its second tier
record IsNext (c : ℕ) (consumer : Live) (tier : Tier) : Type 0 where
  own : tier.consumer ≡ c
  room : tier.room ≡ room_at consumer - free_room consumer

first-from : (c i : ℕ) (live : List Live) (d : Live) → i < length live
    → IsFirst (c + i) (get_or live i d) (tier_at (tiers_from c live) (start_of live i + 0))
first-from c i [] d lt = absurd (omega arith)
first-from c zero (x ∷ live) d lt = record { own = omega arith; room = refl }
first-from c (suc i) (x ∷ live) d lt =
    let e : c + 1 + i ≡ c + suc i = omega arith in
    subst (IsFirst (c + suc i) (get_or live i d)) (sym (tier_after c x live i 0))
    (subst (λ n. IsFirst n (get_or live i d) (tier_at (tiers_from (c + 1) live) (start_of live i + 0))) e
    (first-from (c + 1) i live d (omega arith)))

next-own : (c : ℕ) (x : Live) (tier : Option (ℕ × ℕ)) (rest : List Tier) → IsSome tier
    → IsNext c x (tier_at (next_tier c x tier ++ rest) 0)
next-own c x None rest some = absurd (true≢false (sym some))
next-own c x (Some tier) rest some = record { own = refl; room = refl }

next-from : (c i : ℕ) (live : List Live) (d : Live) → i < length live → IsSome (get_or live i d).tier
    → IsNext (c + i) (get_or live i d) (tier_at (tiers_from c live) (start_of live i + 1))
next-from c i [] d lt some = absurd (omega arith)
next-from c zero (x ∷ live) d lt some =
    let e : c ≡ c + 0 = omega arith in
    subst (λ n. IsNext n x (tier_at (next_tier c x x.tier ++ tiers_from (c + 1) live) 0)) e
    (next-own c x x.tier (tiers_from (c + 1) live) some)
next-from c (suc i) (x ∷ live) d lt some =
    let e : c + 1 + i ≡ c + suc i = omega arith in
    subst (IsNext (c + suc i) (get_or live i d)) (sym (tier_after c x live i 1))
    (subst (λ n. IsNext n (get_or live i d) (tier_at (tiers_from (c + 1) live) (start_of live i + 1))) e
    (next-from (c + 1) i live d (omega arith) some))

-- the first tier of a consumer has its free room
pub first_room-live : (s : SnapshotState) (i : ℕ) (d : Live) → i < length s.live
    → first_room (problem_of s) i ≡ free_room (get_or s.live i d)
first_room-live s i d lt =
    let e : first_in (tiers_from 0 s.live) i ≡ start_of s.live i + 0 = omega (arith, first_in-live s i) in
    ap (λ t. (tier_at (tiers_from 0 s.live) t).room) e ∙ (first-from 0 i s.live d lt).room

next_at : (s : SnapshotState) (i : ℕ) (d : Live) → i < length s.live → IsSome (get_or s.live i d).tier
    → IsNext i (get_or s.live i d) (tier_at (tiers_from 0 s.live) (first_in (tiers_from 0 s.live) i + 1))
next_at s i d lt some =
    let e : start_of s.live i + 1 ≡ first_in (tiers_from 0 s.live) i + 1 = omega (arith, first_in-live s i) in
    let same : 0 + i ≡ i = omega arith in
    subst (λ t. IsNext i (get_or s.live i d) (tier_at (tiers_from 0 s.live) t)) e
    (subst (λ n. IsNext n (get_or s.live i d) (tier_at (tiers_from 0 s.live) (start_of s.live i + 1))) same
    (next-from 0 i s.live d lt some))

-- and the one after it is its own if it has a soft limit
pub next_is_own : (s : SnapshotState) (i : ℕ) (d : Live) → i < length s.live → IsSome (get_or s.live i d).tier
    → (tier_at (tiers_from 0 s.live) (first_in (tiers_from 0 s.live) i + 1)).consumer ≡ i
next_is_own s i d lt some = (next_at s i d lt some).own

-- without a soft limit, all its room is free
pub all_is_free : (x : Live) → x.tier ≡ None → room_at x ≤ free_room x
all_is_free x none =
    let free : free_room x ≡ room_at x =
    ap (λ (tier : Option (ℕ × ℕ)). option_map_or (λ t. t.0 - x.pending) tier (room_at x)) none in
    omega (arith, free)

cases_some : (tier : Option (ℕ × ℕ)) → (tier ≡ None) ⊎ IsSome tier
cases_some None = inl refl
cases_some (Some tier) = inr refl

-- the tiers of a consumer have its whole room
pub room_at-le : (s : SnapshotState) (i : ℕ) (d : Live) → i < length s.live
    → room_at (get_or s.live i d) ≤ room_of (problem_of s) i
room_at-le s i d lt =
    let x = get_or s.live i d in
    let next = first_in (tiers_from 0 s.live) i + 1 in
    let whole = room_of-tiers (problem_of s) i (are_tiers s.live) lt in
    let first = first_room-live s i d lt in
    elim (cases_some x.tier) [
      | inl none ↦ omega (arith, whole, first, all_is_free x none)
      | inr some ↦
          let second = next_at s i d lt some in
          omega (arith, whole, first, room_in-own (tiers_from 0 s.live) i next second.own, second.room)
    ]
