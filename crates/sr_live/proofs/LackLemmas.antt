-- What the free places of an assignment's tiers are worth: nothing exactly if each tier with a price is filled; and no
-- other assignment costs less by more than that.
use Rattle.std.proofs.Common.{◌≡◌, ℕ, zero, suc, ◌+◌, ◌-◌, ◌*◌, ◌<◌, ◌≤◌, List, length, get_or, All, sym, ap, ◌∙◌}
use Rattle.std.proofs.Common.{subst, inl, inr, arith, mul-add, mul-le-mul_left, mul-pos, mul-zero, zero-mul}
use Rattle.std.specs.List.{sum_by}
use Rattle.std.proofs.lemmas.Bool.{cases_lt, cases_eq}
use Rattle.std.proofs.lemmas.List.Elements.{All-from_get_or}
use Rattle.sr_transport.specs.{sum_below, Tiered, tier_at}
use Rattle.sr_transport.specs.Problem.{AreTiers}
use Rattle.sr_transport.specs.Assignment.{charge_of, load, tier_of, tiers_of, total_of, IsAssignment, IsPlacement}
use Rattle.sr_transport.specs.Certificate.{IsLeast}
use Rattle.sr_transport.proofs.SumLemmas.{sum_below-le, sum_below-le_pairs, sum_below-plus, sum_below-same}
use Rattle.sr_transport.proofs.SumLemmas.{sum_below-zero, sum_by_below, sum_by-loads}
use Rattle.sr_transport.proofs.TierLemmas.{tier_in_room, tier_of-own}
use Rattle.sr_transport.proofs.ByTierLemmas.{tiers_of-at, tiers_of-length, tier_of-charged}

-- what the free places of tier t are worth at these prices
abbrev pub lack_at : Tiered → List ℕ → List ℕ → ℕ → ℕ
lack_at p xs prices t = get_or prices t 0 * ((tier_at p.tiers t).room - load (tiers_of p xs) t)

-- the same for all tiers
abbrev pub lack_of : Tiered → List ℕ → List ℕ → ℕ
lack_of p xs prices = sum_below (lack_at p xs prices) (length p.tiers)

-- each tier with a price is filled to its room
abbrev pub AreFilled : Tiered → List ℕ → List ℕ → Type 0
AreFilled p xs prices =
    (t : ℕ) → t < length p.tiers → 0 < get_or prices t 0 → load (tiers_of p xs) t ≡ (tier_at p.tiers t).room

-- ---- nothing is lacking exactly if the tiers are filled

filled_is_worth_nothing : (price room given : ℕ) → (0 < price → given ≡ room) → price * (room - given) ≡ 0
filled_is_worth_nothing price room given filled =
    elim (cases_lt 0 price) [
      | inl some ↦ let none : room - given ≡ 0 = omega (arith, filled some) in rw none (mul-zero price)
      | inr not_above ↦ let none : price ≡ 0 = omega arith in rw none (zero-mul (room - given))
    ]

worth_nothing_is_filled : (price room given : ℕ) → given ≤ room → price * (room - given) ≡ 0 → 0 < price
    → given ≡ room
worth_nothing_is_filled price room given within none some =
    elim (cases_lt given room) [
      | inl less ↦
          let free : 0 < room - given = omega arith in
          let worth : 0 < price * (room - given) = mul-pos some free in
          absurd (omega (arith, none, worth))
      | inr not_less ↦ omega arith
    ]

-- no term is above the sum
term-le_sum : (f : ℕ → ℕ) (n k : ℕ) → k < n → f k ≤ sum_below f n
term-le_sum f zero k lt = absurd (omega arith)
term-le_sum f (suc n) k lt =
    elim (cases_eq k n) [
      | inl same ↦ omega (arith, ap f same)
      | inr other ↦ omega (arith, term-le_sum f n k (omega arith))
    ]

pub filled_lacks_nothing : (p : Tiered) (xs prices : List ℕ) → AreFilled p xs prices → lack_of p xs prices ≡ 0
filled_lacks_nothing p xs prices filled =
    sum_below-zero (lack_at p xs prices) (length p.tiers) (λ t lt.
    filled_is_worth_nothing (get_or prices t 0) (tier_at p.tiers t).room (load (tiers_of p xs) t) (filled t lt))

pub lacking_nothing_is_filled : (p : Tiered) (xs prices : List ℕ) → AreTiers p.takers p.tiers → IsPlacement p xs
    → lack_of p xs prices ≡ 0 → AreFilled p xs prices
lacking_nothing_is_filled p xs prices are placed none t lt some =
    let here : lack_at p xs prices t ≡ 0 =
    omega (arith, term-le_sum (lack_at p xs prices) (length p.tiers) t lt, none) in
    worth_nothing_is_filled (get_or prices t 0) (tier_at p.tiers t).room (load (tiers_of p xs) t)
    (tier_in_room p xs t are placed lt) here some

-- ---- no other assignment costs less by more than that

-- the tiers of a placement are tiers
tiers_of-below : (p : Tiered) (xs : List ℕ) → AreTiers p.takers p.tiers → IsPlacement p xs
    → All (λ t. t < length p.tiers) (tiers_of p xs)
tiers_of-below p xs are placed =
    All-from_get_or (λ t. t < length p.tiers) (tiers_of p xs) 0 (λ i lt.
    let here : i < length xs = omega (arith, tiers_of-length p xs) in
    subst (λ t. t < length p.tiers) (sym (tiers_of-at p xs i here)) (tier_of-own p xs i are placed here).within)

-- the prices of the entries' tiers sum to each price times how many entries are in its tier
prices-by_tier : (p : Tiered) (xs prices : List ℕ) → AreTiers p.takers p.tiers → IsPlacement p xs
    → sum_below (λ i. get_or prices (tier_of p xs i) 0) (length xs)
    ≡ sum_below (λ t. get_or prices t 0 * load (tiers_of p xs) t) (length p.tiers)
prices-by_tier p xs prices are placed =
    let price : ℕ → ℕ = λ t. get_or prices t 0 in
    let listed : ℕ → ℕ = λ i. price (get_or (tiers_of p xs) i 0) in
    let by_entry : sum_by price (tiers_of p xs) ≡ sum_below (λ i. price (tier_of p xs i)) (length xs) =
    sum_by_below price (tiers_of p xs) ∙ ap (sum_below listed) (tiers_of-length p xs)
    ∙ sum_below-same listed (λ i. price (tier_of p xs i)) (length xs) (λ i lt. ap price (tiers_of-at p xs i lt)) in
    sym by_entry ∙ sum_by-loads price (length p.tiers) (tiers_of p xs) (tiers_of-below p xs are placed)

-- what is in a tier, and its free places, are worth no less than what is there otherwise
worth_within : (price here there room : ℕ) → here ≤ room → there ≤ room
    → price * there ≤ price * here + price * (room - here)
worth_within price here there room own other =
    let within : there ≤ here + (room - here) = omega arith in
    let worth : price * there ≤ price * (here + (room - here)) = mul-le-mul_left price within in
    omega (arith, worth, mul-add price here (room - here))

-- the prices of another placement's tiers sum to no more than those of this one and what it lacks
prices_within : (p : Tiered) (xs prices other : List ℕ) → AreTiers p.takers p.tiers → IsPlacement p xs
    → IsPlacement p other
    → sum_below (λ t. get_or prices t 0 * load (tiers_of p other) t) (length p.tiers)
    ≤ sum_below (λ t. get_or prices t 0 * load (tiers_of p xs) t) (length p.tiers) + lack_of p xs prices
prices_within p xs prices other are placed other_placed =
    let price : ℕ → ℕ = λ t. get_or prices t 0 in
    let here : ℕ → ℕ = λ t. price t * load (tiers_of p xs) t in
    let there : ℕ → ℕ = λ t. price t * load (tiers_of p other) t in
    let within = sum_below-le there (λ t. here t + lack_at p xs prices t) (length p.tiers) (λ t lt.
    worth_within (price t) (load (tiers_of p xs) t) (load (tiers_of p other) t) (tier_at p.tiers t).room
    (tier_in_room p xs t are placed lt) (tier_in_room p other t are other_placed lt)) in
    omega (arith, within, sum_below-plus here (lack_at p xs prices) (length p.tiers))

-- each entry is in a tier where the sum of charge and price is least
abbrev pub AreLeast : Tiered → List ℕ → List ℕ → Type 0
AreLeast p xs prices = (i : ℕ) → i < length xs → IsLeast p prices i (tier_of p xs i)

pub at_most_worse_by_lack : (p : Tiered) (xs prices other : List ℕ) → AreTiers p.takers p.tiers → IsAssignment p xs
    → AreLeast p xs prices → IsAssignment p other → total_of p xs ≤ total_of p other + lack_of p xs prices
at_most_worse_by_lack p xs prices other are assigned least other_assigned =
    let price : ℕ → ℕ = λ t. get_or prices t 0 in
    let here : ℕ → ℕ = λ i. charge_of p i (tier_of p xs i) in
    let there : ℕ → ℕ = λ i. charge_of p i (tier_of p other i) in
    let same : length other ≡ length xs = omega (arith, assigned.every, other_assigned.every) in
    let each : (i : ℕ) → i < length xs → here i + price (tier_of p xs i) ≤ there i + price (tier_of p other i) = λ i lt.
    let other_lt : i < length other = omega arith in
    least i lt (tier_of p other i) (tier_of-own p other i are other_assigned.placement other_lt).within
    (tier_of-charged p other i are other_assigned.placement other_lt) in
    let sums = sum_below-le_pairs here (λ i. price (tier_of p xs i)) there (λ i. price (tier_of p other i)) (length xs)
    each in
    omega (
      arith,
      sums,
      ap (sum_below there) same,
      ap (sum_below (λ i. price (tier_of p other i))) same,
      prices-by_tier p xs prices are assigned.placement,
      prices-by_tier p other prices are other_assigned.placement,
      prices_within p xs prices other are assigned.placement other_assigned.placement,
    )
