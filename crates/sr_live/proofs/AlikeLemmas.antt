-- Problems that differ in the rooms of their tiers alone: what is charged, and, if as many entries are in the first
-- tier of each consumer, the tier of each entry and the total.
use Rattle.std.proofs.Common.{◌≡◌, ℕ, ◌+◌, ◌*◌, ◌<◌, ◌≤◌, cond, min, List, [], ◌∷◌, length, map, get_or, take}
use Rattle.std.proofs.Common.{Option, None, option_map, unwrap_or, IsSome, refl, sym, ap, ◌∙◌, subst, inl, inr, arith}
use Rattle.std.proofs.Common.{eq-eqb}
use Rattle.std.specs.Prelude.{nat_lt, ◌==◌, slice_index_or}
use Rattle.std.specs.List.{sum_by}
use Rattle.std.proofs.lemmas.Bool.{cases_lt}
use Rattle.std.proofs.lemmas.List.{get_or-map, get_or_past, length-map}
use Rattle.std.proofs.lemmas.List.Sums.{count_by_more_yes, sum_by-cons, sum_by-take-le}
use Rattle.sr_transport.specs.declared.problem.Tier.{Tier}
use Rattle.sr_transport.specs.{Tiered, first_in, tier_at}
use Rattle.sr_transport.specs.Problem.{IsAllowed, room_of}
use Rattle.sr_transport.specs.Assignment.{charge_at, charge_of, load, tier_of, total_of, IsAssignment, IsPlacement}
use Rattle.sr_transport.specs.Certificate.{IsLeast}
use Rattle.sr_transport.proofs.SumLemmas.{sum_below-same}
use Rattle.sr_transport.proofs.TierLemmas.{no_tier, tier_for-first, tier_for-next}
use Rattle.sr_live.proofs.LackLemmas.{AreLeast}

-- all of a tier but its room
abbrev pub shape : Tier → ℕ × ℕ
shape tier = (tier.consumer, tier.fee)

-- the problems are the same but for the rooms
pub record AreAlike (p q : Tiered) : Type 0 where
  pub takers : p.takers ≡ q.takers
  pub entries : p.entries ≡ q.entries
  pub costs : p.costs ≡ q.costs
  pub shapes : map shape p.tiers ≡ map shape q.tiers

pub tiers-alike : (p q : Tiered) → AreAlike p q → length p.tiers ≡ length q.tiers
tiers-alike p q alike = sym (length-map p.tiers shape) ∙ ap length alike.shapes ∙ length-map q.tiers shape

shape_at : (tiers : List Tier) (t : ℕ) → shape (tier_at tiers t) ≡ get_or (map shape tiers) t (0, 0)
shape_at tiers t =
    elim (cases_lt t (length tiers)) [
      | inl within ↦ sym (get_or-map shape tiers t no_tier (0, 0) within)
      | inr past ↦
          ap shape (get_or_past tiers t no_tier past)
          ∙ sym (get_or_past (map shape tiers) t (0, 0) (omega (arith, length-map tiers shape)))
    ]

shape-alike : (p q : Tiered) (t : ℕ) → AreAlike p q → shape (tier_at p.tiers t) ≡ shape (tier_at q.tiers t)
shape-alike p q t alike =
    shape_at p.tiers t ∙ ap (λ shapes. get_or shapes t (0, 0)) alike.shapes ∙ sym (shape_at q.tiers t)

-- ---- what is charged, and who is allowed

-- what is charged in a tier of this shape
abbrev charge_in : ℕ → List (Option ℕ) → ℕ → ℕ × ℕ → Option ℕ
charge_in takers costs i tier =
    option_map (λ cost. cost + tier.1) (slice_index_or costs (i * takers + tier.0) None)

pub charge_at-alike : (p q : Tiered) (i t : ℕ) → AreAlike p q → charge_at p i t ≡ charge_at q i t
charge_at-alike p q i t alike =
    ap (charge_in p.takers p.costs i) (shape-alike p q t alike)
    ∙ ap (λ takers. charge_in takers p.costs i (shape (tier_at q.tiers t))) alike.takers
    ∙ ap (λ costs. charge_in q.takers costs i (shape (tier_at q.tiers t))) alike.costs

charge_of-alike : (p q : Tiered) (i t : ℕ) → AreAlike p q → charge_of p i t ≡ charge_of q i t
charge_of-alike p q i t alike = ap (λ (charge : Option ℕ). unwrap_or charge 0) (charge_at-alike p q i t alike)

least-alike : (p q : Tiered) (prices : List ℕ) (i t : ℕ) → AreAlike p q → IsLeast p prices i t → IsLeast q prices i t
least-alike p q prices i t alike least u within some =
    let charged = subst (λ (charge : Option ℕ). IsSome charge) (sym (charge_at-alike p q i u alike)) some in
    omega (
      arith,
      least u (omega (arith, tiers-alike p q alike)) charged,
      charge_of-alike p q i t alike,
      charge_of-alike p q i u alike,
    )

allowed-alike : (p q : Tiered) (i c : ℕ) → AreAlike p q → IsAllowed p i c → IsAllowed q i c
allowed-alike p q i c alike allowed =
    let cost = ap (λ takers. slice_index_or p.costs (i * takers + c) None) alike.takers
    ∙ ap (λ (costs : List (Option ℕ)). slice_index_or costs (i * q.takers + c) None) alike.costs in
    (omega (arith, alike.takers, allowed.0), subst (λ (o : Option ℕ). IsSome o) cost allowed.1)

-- an assignment is one of the other problem too if there is room for it
pub assigned-alike : (p q : Tiered) (xs : List ℕ) → AreAlike p q → IsAssignment p xs
    → ((c : ℕ) → c < q.takers → load xs c ≤ room_of q c) → IsAssignment q xs
assigned-alike p q xs alike assigned in_room = record {
  every = assigned.every ∙ alike.entries;
  placement = record {
    allowed = λ i lt. allowed-alike p q i (get_or xs i 0) alike (assigned.placement.allowed i lt);
    in_room = in_room;
  };
}

-- ---- the tier of each entry

-- one for a tier of a consumer before number c
abbrev comes_before : ℕ → ℕ × ℕ → ℕ
comes_before c tier = cond (nat_lt tier.0 c) 1 0

first_in-shapes : (tiers : List Tier) (c : ℕ) → first_in tiers c ≡ sum_by (comes_before c) (map shape tiers)
first_in-shapes [] c = refl
first_in-shapes (tier ∷ tiers) c =
    omega (
      arith,
      sum_by-cons (λ (t : Tier). comes_before c (shape t)) tier tiers,
      sum_by-cons (comes_before c) (shape tier) (map shape tiers),
      first_in-shapes tiers c,
    )

first_in-alike : (p q : Tiered) (c : ℕ) → AreAlike p q → first_in p.tiers c ≡ first_in q.tiers c
first_in-alike p q c alike =
    first_in-shapes p.tiers c ∙ ap (sum_by (comes_before c)) alike.shapes ∙ sym (first_in-shapes q.tiers c)

-- the room of the first tier of consumer c
abbrev pub first_room : Tiered → ℕ → ℕ
first_room p c = (tier_at p.tiers (first_in p.tiers c)).room

-- as many entries are in the first tier of each consumer
abbrev pub HaveSameFirst : Tiered → Tiered → List ℕ → Type 0
HaveSameFirst p q xs = (c : ℕ) → c < p.takers → min (load xs c) (first_room p c) ≡ min (load xs c) (first_room q c)

-- an entry comes after fewer than its consumer gets
before-lt_load : (xs : List ℕ) (i : ℕ) → i < length xs → load (take i xs) (get_or xs i 0) < load xs (get_or xs i 0)
before-lt_load xs i lt =
    let c = get_or xs i 0 in
    let one = count_by_more_yes (λ x. x == c) xs i 0 lt (eq-eqb c c refl) in
    let whole = sum_by-take-le (λ x. cond (x == c) 1 0) xs (i + 1) in
    omega (arith, one, whole)

pub tier_of-alike : (p q : Tiered) (xs : List ℕ) (i : ℕ) → AreAlike p q → IsPlacement p xs → HaveSameFirst p q xs
    → i < length xs → tier_of p xs i ≡ tier_of q xs i
tier_of-alike p q xs i alike placed same lt =
    let c = get_or xs i 0 in
    let k = load (take i xs) c in
    let first = first_in-alike p q c alike in
    let before = before-lt_load xs i lt in
    let filled = same c (placed.allowed i lt).0 in
    elim (cases_lt k (first_room p c)) [
      | inl in_first ↦
          tier_for-first p c k in_first ∙ first
          ∙ sym (tier_for-first q c k (omega (arith, before, filled)))
      | inr beyond ↦
          tier_for-next p c k beyond ∙ ap (λ a. a + 1) first
          ∙ sym (tier_for-next q c k (omega (arith, before, filled)))
    ]

pub total_of-alike : (p q : Tiered) (xs : List ℕ) → AreAlike p q → IsPlacement p xs → HaveSameFirst p q xs
    → total_of p xs ≡ total_of q xs
total_of-alike p q xs alike placed same =
    sum_below-same (λ i. charge_of p i (tier_of p xs i)) (λ i. charge_of q i (tier_of q xs i)) (length xs) (λ i lt.
    ap (charge_of p i) (tier_of-alike p q xs i alike placed same lt) ∙ charge_of-alike p q i (tier_of q xs i) alike)

pub are_least-alike : (p q : Tiered) (xs prices : List ℕ) → AreAlike p q → IsPlacement p xs → HaveSameFirst p q xs
    → AreLeast p xs prices → AreLeast q xs prices
are_least-alike p q xs prices alike placed same least i lt =
    subst (IsLeast q prices i) (tier_of-alike p q xs i alike placed same lt)
    (least-alike p q prices i (tier_of p xs i) alike (least i lt))
