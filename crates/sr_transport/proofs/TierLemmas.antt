-- The tiers of consumers: which are whose, how much room they have, and how the entries of an assignment fill them.
use Rattle.std.proofs.Common.{◌≡◌, ℕ, zero, suc, ◌+◌, ◌-◌, ◌<◌, ◌≤◌, ◌==◌, ◌⊎◌, Bool, true, false, cond, min, List}
use Rattle.std.proofs.Common.{length, map, get_or, take, refl, sym, ap, ◌∙◌, subst, inl, inr, arith, eq-eqb}
use Rattle.std.specs.List.{range_with_len}
use Rattle.std.proofs.Math.Seq.{take-length}
use Rattle.std.proofs.lemmas.Bool.{cases_lt, cases_eq, ne_eqb, lt-ltb, le-ltb}
use Rattle.std.proofs.lemmas.List.{get_or_past}
use Rattle.std.proofs.lemmas.List.FromFn.{sum_by-map-range_with_len_more}
use Rattle.std.proofs.lemmas.List.Sums.{sum_by_more, sum_by-take-le, count_by_more_yes}
use Rattle.sr_transport.specs.declared.problem.Tier.{Tier}
use Rattle.sr_transport.specs.Sum.{sum_below}
use Rattle.sr_transport.specs.Problem.{Tiered, AreTiers, tier_at, first_in, room_of}
use Rattle.sr_transport.specs.Assignment.{load, tier_for, tier_of, tiers_of, IsPlacement}
use Rattle.sr_transport.proofs.SumLemmas.{sum_below-one, sum_below-two, sum_by_at}

-- the tier past the last one
abbrev pub no_tier : Tier
no_tier = record { consumer = 0; room = 0; fee = 0 }

-- a tier of consumer c is its first or the next one
pub tier_is : (takers : ℕ) (tiers : List Tier) (t c : ℕ) → AreTiers takers tiers → t < length tiers
    → (tier_at tiers t).consumer ≡ c
    → (t ≡ first_in tiers c) ⊎ (t ≡ first_in tiers c + 1)
tier_is takers tiers t c are lt own =
    subst (λ x. (t ≡ first_in tiers x) ⊎ (t ≡ first_in tiers x + 1)) own (are.near t lt).1

-- the room that tier t has for consumer c
abbrev pub room_in : List Tier → ℕ → ℕ → ℕ
room_in tiers c t = cond ((tier_at tiers t).consumer == c) (tier_at tiers t).room 0

room_own : (x c room : ℕ) → x ≡ c → cond (x == c) room 0 ≡ room
room_own x c room own = ap (λ b. cond b room 0) (eq-eqb x c own)

room_other : (x c room : ℕ) → (x ≡ c → ⊥) → cond (x == c) room 0 ≡ 0
room_other x c room other = ap (λ b. cond b room 0) (ne_eqb x c other)

no_room : (b : Bool) → ◌≡◌ {A = ℕ} (cond b 0 0) 0
no_room true = refl
no_room false = refl

pub room_in-past : (tiers : List Tier) (c t : ℕ) → length tiers ≤ t → room_in tiers c t ≡ 0
room_in-past tiers c t past =
    let none : tier_at tiers t ≡ no_tier = get_or_past tiers t no_tier past in
    ap (λ (tier : Tier). cond (tier.consumer == c) tier.room 0) none ∙ no_room (0 == c)

pub room_in-own : (tiers : List Tier) (c t : ℕ) → (tier_at tiers t).consumer ≡ c
    → room_in tiers c t ≡ (tier_at tiers t).room
room_in-own tiers c t own = room_own (tier_at tiers t).consumer c (tier_at tiers t).room own

pub room_in-other : (tiers : List Tier) (c t : ℕ) → ((tier_at tiers t).consumer ≡ c → ⊥) → room_in tiers c t ≡ 0
room_in-other tiers c t other = room_other (tier_at tiers t).consumer c (tier_at tiers t).room other

pub room_of-sum : (p : Tiered) (c : ℕ) → room_of p c ≡ sum_below (room_in p.tiers c) (length p.tiers)
room_of-sum p c = sum_by_at (λ (tier : Tier). cond (tier.consumer == c) tier.room 0) no_tier p.tiers

-- a tier that is neither the first nor the next one has no room for the consumer
elsewhere : (takers : ℕ) (tiers : List Tier) (c t : ℕ) → AreTiers takers tiers → t < length tiers
    → (t ≡ first_in tiers c → ⊥) → (t ≡ first_in tiers c + 1 → ⊥) → room_in tiers c t ≡ 0
elsewhere takers tiers c t are lt not_first not_next =
    room_in-other tiers c t (λ own. elim (tier_is takers tiers t c are lt own) [
      | inl first ↦ not_first first
      | inr next ↦ not_next next
    ])

-- the room of a consumer is that of its first tier and that of the next one, if this is its own
pub room_of-tiers : (p : Tiered) (c : ℕ) → AreTiers p.takers p.tiers → c < p.takers
    → room_of p c ≡ (tier_at p.tiers (first_in p.tiers c)).room + room_in p.tiers c (first_in p.tiers c + 1)
room_of-tiers p c are lt =
    let a = first_in p.tiers c in
    let first = are.first c lt in
    let here = room_in-own p.tiers c a first.own in
    elim (cases_lt (a + 1) (length p.tiers)) [
      | inl more ↦
          let two =
          sum_below-two (room_in p.tiers c) a (length p.tiers) more (λ t. elsewhere p.takers p.tiers c t are) in
          omega (arith, room_of-sum p c, two, here)
      | inr last ↦
          let none = room_in-past p.tiers c (a + 1) last in
          let one = sum_below-one (room_in p.tiers c) a (length p.tiers) first.here
          (λ t l not_first. elsewhere p.takers p.tiers c t are l not_first (λ e. absurd (omega arith))) in
          omega (arith, room_of-sum p c, one, here, none)
    ]

-- a tier with room for a consumer is one of its own
pub room_in_is_own : (tiers : List Tier) (c t : ℕ) → 0 < room_in tiers c t
    → (t < length tiers) × ((tier_at tiers t).consumer ≡ c)
room_in_is_own tiers c t some = (
  elim (cases_lt t (length tiers)) [
    | inl within ↦ within
    | inr past ↦ absurd (omega (arith, room_in-past tiers c t past))
  ],
  elim (cases_eq (tier_at tiers t).consumer c) [
    | inl own ↦ own
    | inr other ↦ absurd (omega (arith, room_in-other tiers c t other))
  ],
)

-- the tier of an entry after others
pub tier_for-first : (p : Tiered) (c k : ℕ) → k < (tier_at p.tiers (first_in p.tiers c)).room
    → tier_for p c k ≡ first_in p.tiers c
tier_for-first p c k lt =
    let a = first_in p.tiers c in
    ap (λ b. cond b a (a + 1)) (lt-ltb k (tier_at p.tiers a).room lt)

pub tier_for-next : (p : Tiered) (c k : ℕ) → (tier_at p.tiers (first_in p.tiers c)).room ≤ k
    → tier_for p c k ≡ first_in p.tiers c + 1
tier_for-next p c k le =
    let a = first_in p.tiers c in
    ap (λ b. cond b a (a + 1)) (le-ltb k (tier_at p.tiers a).room le)

-- tier t is one of consumer c
pub record IsTierOf (tiers : List Tier) (c t : ℕ) : Type 0 where
  pub within : t < length tiers
  pub own : (tier_at tiers t).consumer ≡ c

-- while there is room, the tier is one of the consumer
pub tier_for-own : (p : Tiered) (c k : ℕ) → AreTiers p.takers p.tiers → c < p.takers → k < room_of p c
    → IsTierOf p.tiers c (tier_for p c k)
tier_for-own p c k are lt room =
    let a = first_in p.tiers c in
    elim (cases_lt k (tier_at p.tiers a).room) [
      | inl in_first ↦
          let first = are.first c lt in
          subst (IsTierOf p.tiers c) (sym (tier_for-first p c k in_first))
          (record { within = first.here; own = first.own })
      | inr beyond ↦
          let own = room_in_is_own p.tiers c (a + 1) (omega (arith, room_of-tiers p c are lt)) in
          subst (IsTierOf p.tiers c) (sym (tier_for-next p c k beyond)) (record { within = own.0; own = own.1 })
    ]

-- an entry of a placement is in a tier of its consumer
pub tier_of-own : (p : Tiered) (xs : List ℕ) (i : ℕ) → AreTiers p.takers p.tiers → IsPlacement p xs → i < length xs
    → IsTierOf p.tiers (get_or xs i 0) (tier_of p xs i)
tier_of-own p xs i are placed lt =
    let c = get_or xs i 0 in
    let taker : c < p.takers = (placed.allowed i lt).0 in
    let one = count_by_more_yes (λ x. x == c) xs i 0 lt (eq-eqb c c refl) in
    let whole = sum_by-take-le (λ x. cond (x == c) 1 0) xs (i + 1) in
    tier_for-own p c (load (take i xs) c) are taker (omega (arith, one, whole, placed.in_room c taker))

-- the tiers of the first k entries
abbrev pub tiers_upto : Tiered → List ℕ → ℕ → List ℕ
tiers_upto p xs k = map (tier_of p xs) (range_with_len 0 k)

-- one entry more, to consumer c or to another
pub load-more_own : (xs : List ℕ) (k c : ℕ) → k < length xs → get_or xs k 0 ≡ c
    → load (take (k + 1) xs) c ≡ load (take k xs) c + 1
load-more_own xs k c lt own = count_by_more_yes (λ x. x == c) xs k 0 lt (eq-eqb (get_or xs k 0) c own)

pub load-more_other : (xs : List ℕ) (k c : ℕ) → k < length xs → (get_or xs k 0 ≡ c → ⊥)
    → load (take (k + 1) xs) c ≡ load (take k xs) c
load-more_other xs k c lt other =
    let more = sum_by_more (λ x. cond (x == c) 1 0) xs k 0 lt in
    omega (arith, more, room_other (get_or xs k 0) c 1 other)

tier-more_own : (p : Tiered) (xs : List ℕ) (k t : ℕ) → tier_of p xs k ≡ t
    → load (tiers_upto p xs (k + 1)) t ≡ load (tiers_upto p xs k) t + 1
tier-more_own p xs k t own =
    let more = sum_by-map-range_with_len_more (λ x. cond (x == t) 1 0) (tier_of p xs) 0 k k (omega arith) in
    omega (arith, more, room_own (tier_of p xs k) t 1 own)

tier-more_other : (p : Tiered) (xs : List ℕ) (k t : ℕ) → (tier_of p xs k ≡ t → ⊥)
    → load (tiers_upto p xs (k + 1)) t ≡ load (tiers_upto p xs k) t
tier-more_other p xs k t other =
    let more = sum_by-map-range_with_len_more (λ x. cond (x == t) 1 0) (tier_of p xs) 0 k k (omega arith) in
    omega (arith, more, room_other (tier_of p xs k) t 1 other)

-- a tier of another consumer is another tier
other_tier : (tiers : List Tier) (x c t u : ℕ) → IsTierOf tiers x t → (tier_at tiers u).consumer ≡ c → (x ≡ c → ⊥)
    → t ≡ u → ⊥
other_tier tiers x c t u of_x of_c other same =
    other (sym of_x.own ∙ ap (λ i. (tier_at tiers i).consumer) same ∙ of_c)

-- entry k of consumer x goes to a tier for it after as many as came before
tier_of-is : (p : Tiered) (xs : List ℕ) (k c : ℕ) → get_or xs k 0 ≡ c
    → tier_of p xs k ≡ tier_for p c (load (take k xs) c)
tier_of-is p xs k c own = ap (λ x. tier_for p x (load (take k xs) x)) own

-- of the first k entries, as many are in the first tier of consumer c as it has room for
first_upto : (p : Tiered) (xs : List ℕ) (c k : ℕ) → AreTiers p.takers p.tiers → IsPlacement p xs → c < p.takers
    → k ≤ length xs
    → load (tiers_upto p xs k) (first_in p.tiers c)
    ≡ min (load (take k xs) c) (tier_at p.tiers (first_in p.tiers c)).room
first_upto p xs c zero are placed lt le = omega arith
first_upto p xs c (suc k) are placed lt le =
    let a = first_in p.tiers c in
    let room = (tier_at p.tiers a).room in
    let before = first_upto p xs c k are placed lt (omega arith) in
    let next : suc k ≡ k + 1 = omega arith in
    let within : k < length xs = omega arith in
    subst (λ n. load (tiers_upto p xs n) a ≡ min (load (take n xs) c) room) (sym next)
    (elim (cases_eq (get_or xs k 0) c) [
      | inl own ↦
          let more = load-more_own xs k c within own in
          elim (cases_lt (load (take k xs) c) room) [
            | inl in_first ↦
                let one = tier-more_own p xs k a
                (tier_of-is p xs k c own ∙ tier_for-first p c (load (take k xs) c) in_first) in
                omega (arith, before, more, one)
            | inr beyond ↦
                let second = tier_of-is p xs k c own ∙ tier_for-next p c (load (take k xs) c) beyond in
                let none = tier-more_other p xs k a (λ e. omega (arith, second)) in
                omega (arith, before, more, none)
          ]
      | inr other ↦
          let same = load-more_other xs k c within other in
          let none = tier-more_other p xs k a
          (other_tier p.tiers (get_or xs k 0) c (tier_of p xs k) a (tier_of-own p xs k are placed within)
          (are.first c lt).own other) in
          omega (arith, before, same, none)
    ])

-- and as many as are beyond that in the next, if it is the consumer's own
next_upto : (p : Tiered) (xs : List ℕ) (c k : ℕ) → AreTiers p.takers p.tiers → IsPlacement p xs → c < p.takers
    → (tier_at p.tiers (first_in p.tiers c + 1)).consumer ≡ c → k ≤ length xs
    → load (tiers_upto p xs k) (first_in p.tiers c + 1)
    ≡ load (take k xs) c - (tier_at p.tiers (first_in p.tiers c)).room
next_upto p xs c zero are placed lt second le = omega arith
next_upto p xs c (suc k) are placed lt second le =
    let a = first_in p.tiers c in
    let room = (tier_at p.tiers a).room in
    let before = next_upto p xs c k are placed lt second (omega arith) in
    let next : suc k ≡ k + 1 = omega arith in
    let within : k < length xs = omega arith in
    subst (λ n. load (tiers_upto p xs n) (a + 1) ≡ load (take n xs) c - room) (sym next)
    (elim (cases_eq (get_or xs k 0) c) [
      | inl own ↦
          let more = load-more_own xs k c within own in
          elim (cases_lt (load (take k xs) c) room) [
            | inl in_first ↦
                let first = tier_of-is p xs k c own ∙ tier_for-first p c (load (take k xs) c) in_first in
                let none = tier-more_other p xs k (a + 1) (λ e. omega (arith, first)) in
                omega (arith, before, more, none)
            | inr beyond ↦
                let one = tier-more_own p xs k (a + 1)
                (tier_of-is p xs k c own ∙ tier_for-next p c (load (take k xs) c) beyond) in
                omega (arith, before, more, one)
          ]
      | inr other ↦
          let same = load-more_other xs k c within other in
          let none = tier-more_other p xs k (a + 1)
          (other_tier p.tiers (get_or xs k 0) c (tier_of p xs k) (a + 1)
          (tier_of-own p xs k are placed within) second other) in
          omega (arith, before, same, none)
    ])

-- the entries of a consumer in its first tier
pub load-first : (p : Tiered) (xs : List ℕ) (c : ℕ) → AreTiers p.takers p.tiers → IsPlacement p xs → c < p.takers
    → load (tiers_of p xs) (first_in p.tiers c) ≡ min (load xs c) (tier_at p.tiers (first_in p.tiers c)).room
load-first p xs c are placed lt =
    first_upto p xs c (length xs) are placed lt (omega arith)
    ∙ ap (λ ys. min (load ys c) (tier_at p.tiers (first_in p.tiers c)).room) (take-length xs)

-- the entries of a consumer in its second tier
pub load-next : (p : Tiered) (xs : List ℕ) (c : ℕ) → AreTiers p.takers p.tiers → IsPlacement p xs → c < p.takers
    → (tier_at p.tiers (first_in p.tiers c + 1)).consumer ≡ c
    → load (tiers_of p xs) (first_in p.tiers c + 1) ≡ load xs c - (tier_at p.tiers (first_in p.tiers c)).room
load-next p xs c are placed lt second =
    next_upto p xs c (length xs) are placed lt second (omega arith)
    ∙ ap (λ ys. load ys c - (tier_at p.tiers (first_in p.tiers c)).room) (take-length xs)

-- no tier of a placement gets more entries than it has room for
pub tier_in_room : (p : Tiered) (xs : List ℕ) (t : ℕ) → AreTiers p.takers p.tiers → IsPlacement p xs
    → t < length p.tiers
    → load (tiers_of p xs) t ≤ (tier_at p.tiers t).room
tier_in_room p xs t are placed lt =
    let c = (tier_at p.tiers t).consumer in
    let a = first_in p.tiers c in
    let near = are.near t lt in
    elim (near.1) [
      | inl first ↦
          subst (λ u. load (tiers_of p xs) u ≤ (tier_at p.tiers u).room) (sym first)
          (omega (arith, load-first p xs c are placed near.0))
      | inr next ↦
          let own : (tier_at p.tiers (a + 1)).consumer ≡ c = sym (ap (λ u. (tier_at p.tiers u).consumer) next) in
          subst (λ u. load (tiers_of p xs) u ≤ (tier_at p.tiers u).room) (sym next)
          (omega (
            arith,
            load-next p xs c are placed near.0 own,
            room_of-tiers p c are near.0,
            room_in-own p.tiers c (a + 1) own,
            placed.in_room c near.0,
          ))
    ]

-- the entries in tier t, which is the first of its consumer
pub load-at_first : (p : Tiered) (xs : List ℕ) (t : ℕ) → AreTiers p.takers p.tiers → IsPlacement p xs
    → t < length p.tiers
    → t ≡ first_in p.tiers (tier_at p.tiers t).consumer
    → load (tiers_of p xs) t
    ≡ min (load xs (tier_at p.tiers t).consumer) (tier_at p.tiers (first_in p.tiers (tier_at p.tiers t).consumer)).room
load-at_first p xs t are placed lt first =
    ap (load (tiers_of p xs)) first ∙ load-first p xs (tier_at p.tiers t).consumer are placed (are.near t lt).0

-- the entries in tier t, which is not the first of its consumer
pub load-at_next : (p : Tiered) (xs : List ℕ) (t : ℕ) → AreTiers p.takers p.tiers → IsPlacement p xs
    → t < length p.tiers
    → (t ≡ first_in p.tiers (tier_at p.tiers t).consumer → ⊥)
    → load (tiers_of p xs) t
    ≡ load xs (tier_at p.tiers t).consumer - (tier_at p.tiers (first_in p.tiers (tier_at p.tiers t).consumer)).room
load-at_next p xs t are placed lt other =
    let c = (tier_at p.tiers t).consumer in
    let near = are.near t lt in
    let next : t ≡ first_in p.tiers c + 1 = elim (near.1) [
      | inl first ↦ absurd (other first)
      | inr second ↦ second
    ] in
    let own : (tier_at p.tiers (first_in p.tiers c + 1)).consumer ≡ c =
    sym (ap (λ u. (tier_at p.tiers u).consumer) next) in
    ap (load (tiers_of p xs)) next ∙ load-next p xs c are placed near.0 own
