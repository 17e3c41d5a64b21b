-- A problem with tiers as one with steps over its consumers, and an answer to that as one to the problem.
use Rattle.std.proofs.Common.{◌≡◌, ℕ, zero, suc, ◌+◌, ◌*◌, ◌-◌, ◌<◌, ◌≤◌, ◌==◌, Bool, true, false, cond, min, List, [], ◌∷◌, ◌++◌}
use Rattle.std.proofs.Common.{length, get_or, take, Option, Some, None, option_map, unwrap_or, IsSome, All, refl, sym, ap}
use Rattle.std.proofs.Common.{◌∙◌, subst, inl, inr, arith, length-append}
use Rattle.std.specs.Prelude.{IfSome, is_some}
use Rattle.std.specs.List.{list_any}
use Rattle.std.specs.List.Sorted.{IsStrictlyIncreasing}
use Rattle.std.proofs.lemmas.Bool.{cases_lt, cases_eq, false≢true}
use Rattle.std.proofs.lemmas.List.{get_or_append_left, get_or_push}
use Rattle.std.proofs.lemmas.List.Elements.{All-get_or, All-from_get_or, All-weaker}
use Rattle.std.proofs.lemmas.List.Sums.{count_by-le-length, sum_by-take-le}
use Rattle.sr_transport.specs.{Tiered, Transport, tier_at, first_in, sum_below, greatest_charge, greatest_price, most_entries}
use Rattle.sr_transport.specs.Limits.{greatest_room, greatest_total, greatest_cost}
use Rattle.sr_transport.specs.Problem.{AreTiers, IsWithinLimits, room_of, cost_at, cost_of, IsAllowed}
use Rattle.sr_transport.specs.Assignment.{load, tier_for, tier_of, tiers_of, charge_of, total_of}
use Rattle.sr_transport.specs.Assignment.{IsAssignment}
use Rattle.sr_transport.specs.Certificate.{IsLeast, is_reached, places_of, IsShortage}
use Rattle.sr_transport.specs.Solved.{IsBest}
use Rattle.sr_transport.specs.plain.Problem as plain
use Rattle.sr_transport.specs.plain.Certificate as plain_certificate
use Rattle.sr_transport.proofs.SumLemmas.{sum_below-same}
use Rattle.sr_transport.proofs.TierLemmas.{IsTierOf, room_in, room_of-tiers}
use Rattle.sr_transport.proofs.TierLemmas.{room_in-own, tier_of-own}
use Rattle.sr_transport.proofs.TierLemmas.{tier_for-first, tier_for-next, load-at_first, load-at_next, load-more_own}
use Rattle.sr_transport.proofs.GivenLemmas.{IsGiven}
use Rattle.sr_transport.proofs.ByTierLemmas.{tier_small}
use Rattle.sr_solver.specs.declared.stepped.Step.{Step}
use Rattle.sr_solver.specs.Steps.{step_at, next_fee, AreSteps}
use Rattle.sr_solver.specs.Answered.{IsPriced}
use Rattle.sr_solver.specs.ByConsumer.{AreRoomsOf, AreStepsOf, AreByTier}
use Rattle.sr_solver.proofs.StepLemmas.{fee_first, fee_beyond}

-- one more in a list
pub push_each : {X : Type 0} (P : ℕ → X → Type 0) (d : X) (xs : List X) (x : X) (n : ℕ) → length xs ≡ n
    → ((k : ℕ) → k < n → P k (get_or xs k d)) → P n x → (k : ℕ) → k < n + 1 → P k (get_or (xs ++ x ∷ []) k d)
push_each P d xs x n many each here k lt =
    elim (cases_lt k n) [
      | inl before ↦ rw (get_or_append_left xs (x ∷ []) d k (omega (arith, before, many))) (each k before)
      | inr past ↦
          let same : n ≡ k = omega (arith, lt, past) in
          rw (get_or_push xs x d k (many ∙ same)) (subst (λ j. P j x) same here)
    ]

pub push_length : {X : Type 0} (xs : List X) (x : X) (n : ℕ) → length xs ≡ n → length (xs ++ x ∷ []) ≡ n + 1
push_length xs x n many = omega (arith, length-append xs (x ∷ []), many)

-- the problem over consumers
abbrev pub over : Tiered → List ℕ → Transport
over p rooms = record { rooms = rooms; entries = p.entries; costs = p.costs }

pub over_is : (p : Tiered) (q : Transport) (given rooms : List ℕ) (entries : ℕ) (costs : List (Option ℕ))
    → q ≡ record { rooms = given; entries = entries; costs = costs } → given ≡ rooms → entries ≡ p.entries
    → costs ≡ p.costs → q ≡ over p rooms
over_is p q given rooms entries costs is same_rooms same_entries same_costs =
    rw (is, same_rooms, same_entries, same_costs) refl

-- its limits
small_charge : (cost : Option ℕ) → IfSome cost (λ c. c ≤ greatest_cost) → IfSome cost (λ c. c ≤ greatest_charge)
small_charge None small = tt
small_charge (Some c) small = omega (arith, small)

small_costs : (costs : List (Option ℕ)) → All (λ cost. IfSome cost (λ c. c ≤ greatest_cost)) costs
    → All (λ cost. IfSome cost (λ c. c ≤ greatest_charge)) costs
small_costs costs small =
    All-weaker (λ cost. IfSome cost (λ c. c ≤ greatest_cost)) (λ cost. IfSome cost (λ c. c ≤ greatest_charge))
    small_charge costs small

pub over_within : (p : Tiered) (rooms : List ℕ) → IsWithinLimits p.tiers p.takers p.entries p.costs → AreRoomsOf p rooms
    → plain.IsWithinLimits rooms p.entries p.costs
over_within p rooms limits are = record {
  consumers = omega (arith, are.one_each, limits.consumers);
  few_entries = limits.few_entries;
  pairs = limits.pairs ∙ ap (λ n. p.entries * n) (sym are.one_each);
  small_rooms = All-from_get_or (λ room. room ≤ greatest_room) rooms 0
      (λ c lt. omega (arith, are.each c (omega (arith, lt, are.one_each))));
  small_costs = small_costs p.costs limits.small_costs;
}

-- its steps
pub over_steps : (p : Tiered) (rooms : List ℕ) (s : List Step) → IsWithinLimits p.tiers p.takers p.entries p.costs
    → AreRoomsOf p rooms → AreStepsOf p s → AreSteps rooms s
over_steps p rooms s limits rooms_are are = record {
  one_each = are.one_each ∙ sym rooms_are.one_each;
  few = omega (arith, rooms_are.one_each, limits.consumers);
  first = λ c lt.
      let taker : c < p.takers = omega (arith, lt, rooms_are.one_each) in
      omega (
        arith,
        (are.each c taker).first,
        rooms_are.each c taker,
        room_of-tiers p c limits.are_tiers taker,
        (tier_small p.tiers (first_in p.tiers c) limits.small_tiers).room,
      );
  small = λ c lt. (are.each c (omega (arith, lt, rooms_are.one_each))).small;
}

-- costs and consumers are the same
over_cost : (p : Tiered) (rooms : List ℕ) → AreRoomsOf p rooms → (i c : ℕ)
    → plain.cost_at (over p rooms) i c ≡ cost_at p i c
over_cost p rooms are i c = ap (λ n. get_or p.costs (i * n + c) None) are.one_each

over_allowed : (p : Tiered) (rooms : List ℕ) → AreRoomsOf p rooms → (i c : ℕ) → plain.IsAllowed (over p rooms) i c
    → IsAllowed p i c
over_allowed p rooms are i c allowed =
    (omega (arith, allowed.0, are.one_each), rw (over_cost p rooms are i c) at allowed.1)

allowed_over : (p : Tiered) (rooms : List ℕ) → AreRoomsOf p rooms → (i c : ℕ) → IsAllowed p i c
    → plain.IsAllowed (over p rooms) i c
allowed_over p rooms are i c allowed =
    (omega (arith, allowed.0, are.one_each), rw (over_cost p rooms are i c) allowed.1)

-- so are assignments
pub over_assigned : (p : Tiered) (rooms : List ℕ) (s : List Step) (xs prices : List ℕ) → AreRoomsOf p rooms
    → IsPriced (over p rooms) s xs prices → IsAssignment p xs
over_assigned p rooms s xs prices are priced = record {
  every = priced.assignment.every;
  placement = record {
    allowed = λ i lt. over_allowed p rooms are i (get_or xs i 0) (priced.assignment.placement.allowed i lt);
    in_room = λ c lt.
        omega (arith, priced.assignment.placement.in_room c (omega (arith, lt, are.one_each)), are.each c lt);
  };
}

-- what is charged in a tier of a consumer that the entry is allowed
charge_is : (fee : ℕ) (cost : Option ℕ) → IsSome cost
    → unwrap_or (option_map (λ n. n + fee) cost) 0 ≡ unwrap_or cost 0 + fee
charge_is fee None some = absurd (false≢true some)
charge_is fee (Some n) some = refl

charge_needs : (fee : ℕ) (cost : Option ℕ) → IsSome (option_map (λ n. n + fee) cost) → IsSome cost
charge_needs fee None some = some
charge_needs fee (Some n) some = refl

pub charge_own : (p : Tiered) (i c t : ℕ) → (tier_at p.tiers t).consumer ≡ c → IsSome (cost_at p i c)
    → charge_of p i t ≡ cost_of p i c + (tier_at p.tiers t).fee
charge_own p i c t own some =
    let there : IsSome (cost_at p i (tier_at p.tiers t).consumer) = rw own some in
    charge_is (tier_at p.tiers t).fee (cost_at p i (tier_at p.tiers t).consumer) there
    ∙ ap (λ x. cost_of p i x + (tier_at p.tiers t).fee) own

-- the fee of the tier that a consumer's next entry gets is that of its step
pub fee_of_tier : (p : Tiered) (s : List Step) (c k : ℕ) → AreTiers p.takers p.tiers → AreStepsOf p s → c < p.takers
    → IsTierOf p.tiers c (tier_for p c k) → (tier_at p.tiers (tier_for p c k)).fee ≡ next_fee s c k
fee_of_tier p s c k are steps lt own =
    let is = steps.each c lt in
    elim (cases_lt k (step_at s c).first) [
      | inl before ↦
          let at : tier_for p c k ≡ first_in p.tiers c = tier_for-first p c k (omega (arith, before, is.first)) in
          ap (λ t. (tier_at p.tiers t).fee) at ∙ (are.first c lt).free ∙ sym (fee_first (step_at s c) k before)
      | inr past ↦
          let at : tier_for p c k ≡ first_in p.tiers c + 1 = tier_for-next p c k (omega (arith, past, is.first)) in
          ap (λ t. (tier_at p.tiers t).fee) at
          ∙ sym (is.next (rw at at own.own))
          ∙ sym (fee_beyond (step_at s c) k past)
    ]

-- what an entry is charged, as it was read
pub charge_read : (p : Tiered) (s : List Step) (xs given : List ℕ) (k had fee : ℕ) (read : Option ℕ) (cost : ℕ)
    → AreTiers p.takers p.tiers → AreStepsOf p s → IsAssignment p xs → IsGiven p xs given k → k < length xs
    → had ≡ get_or given (get_or xs k 0) 0 → fee ≡ next_fee s (get_or xs k 0) had
    → read ≡ cost_at p k (get_or xs k 0) → read ≡ Some cost
    → charge_of p k (tier_of p xs k) ≡ cost + fee
charge_read p s xs given k had fee read cost are steps assigned is lt held is_fee is_read some =
    let c = get_or xs k 0 in
    let own = tier_of-own p xs k are assigned.placement lt in
    let allowed = assigned.placement.allowed k lt in
    let before : had ≡ load (take k xs) c = held ∙ is.each c allowed.0 in
    let is_cost : cost_of p k c ≡ cost = ap (λ (o : Option ℕ). unwrap_or o 0) (sym is_read ∙ some) in
    let fees : (tier_at p.tiers (tier_of p xs k)).fee ≡ next_fee s c had =
    fee_of_tier p s c (load (take k xs) c) are steps allowed.0 own ∙ ap (next_fee s c) (sym before) in
    omega (arith, charge_own p k c (tier_of p xs k) own.own allowed.1, is_cost, fees, is_fee)

-- what the consumer has before an entry is less than its load
before_less : (xs : List ℕ) (i c : ℕ) → i < length xs → get_or xs i 0 ≡ c → load (take i xs) c < load xs c
before_less xs i c lt own =
    omega (arith, load-more_own xs i c lt own, sum_by-take-le (λ x. cond (x == c) 1 0) xs (i + 1))

-- the fee of an entry's tier is no greater than its consumer's price
fee_within : (p : Tiered) (rooms : List ℕ) (s : List Step) (xs prices : List ℕ) (i : ℕ)
    → IsWithinLimits p.tiers p.takers p.entries p.costs → AreRoomsOf p rooms → AreStepsOf p s
    → IsPriced (over p rooms) s xs prices → i < length xs
    → next_fee s (get_or xs i 0) (load (take i xs) (get_or xs i 0)) ≤ get_or prices (get_or xs i 0) 0
fee_within p rooms s xs prices i limits are steps priced lt =
    let c = get_or xs i 0 in
    let k = load (take i xs) c in
    let less = before_less xs i c lt refl in
    let level = priced.level c (priced.assignment.placement.allowed i lt).0 in
    elim (cases_lt k (step_at s c).first) [
      | inl before ↦ omega (arith, fee_first (step_at s c) k before)
      | inr past ↦ omega (arith, fee_beyond (step_at s c) k past, level.last (omega (arith, past, less)))
    ]

-- each entry is in a tier where charge and price are least
pub over_least : (p : Tiered) (rooms : List ℕ) (s : List Step) (xs prices ys : List ℕ)
    → IsWithinLimits p.tiers p.takers p.entries p.costs → AreRoomsOf p rooms → AreStepsOf p s
    → IsPriced (over p rooms) s xs prices → AreByTier p.tiers prices ys
    → (i : ℕ) → i < length xs → IsLeast p ys i (tier_of p xs i)
over_least p rooms s xs prices ys limits are steps priced by i lt u ltu some =
    let assigned = over_assigned p rooms s xs prices are priced in
    let c = get_or xs i 0 in
    let k = load (take i xs) c in
    let own = tier_of-own p xs i limits.are_tiers assigned.placement lt in
    let allowed = assigned.placement.allowed i lt in
    let t = tier_of p xs i in
    let d = (tier_at p.tiers u).consumer in
    let cost_there : IsSome (cost_at p i d) = charge_needs (tier_at p.tiers u).fee (cost_at p i d) some in
    let taker : d < p.takers = (limits.are_tiers.near u ltu).0 in
    let least = priced.least i lt d (allowed_over p rooms are i d (taker, cost_there)) in
    let fee : (tier_at p.tiers t).fee ≡ next_fee s c k = fee_of_tier p s c k limits.are_tiers steps allowed.0 own in
    let here : get_or ys t 0 ≡ get_or prices c 0 - (tier_at p.tiers t).fee =
    by.each t own.within ∙ ap (λ x. get_or prices x 0 - (tier_at p.tiers t).fee) own.own in
    omega (
      arith,
      charge_own p i c t own.own allowed.1,
      charge_own p i d u refl cost_there,
      ap (λ (o : Option ℕ). unwrap_or o 0) (over_cost p rooms are i c),
      ap (λ (o : Option ℕ). unwrap_or o 0) (over_cost p rooms are i d),
      here,
      by.each u ltu,
      fee,
      fee_within p rooms s xs prices i limits are steps priced lt,
      least,
    )

-- a tier with a price is filled
pub over_filled : (p : Tiered) (rooms : List ℕ) (s : List Step) (xs prices ys : List ℕ)
    → IsWithinLimits p.tiers p.takers p.entries p.costs → AreRoomsOf p rooms → AreStepsOf p s
    → IsPriced (over p rooms) s xs prices → AreByTier p.tiers prices ys
    → (t : ℕ) → t < length p.tiers → 0 < get_or ys t 0 → load (tiers_of p xs) t ≡ (tier_at p.tiers t).room
over_filled p rooms s xs prices ys limits are steps priced by t lt above =
    let assigned = over_assigned p rooms s xs prices are priced in
    let c = (tier_at p.tiers t).consumer in
    let a = first_in p.tiers c in
    let near = limits.are_tiers.near t lt in
    let taker : c < p.takers = near.0 in
    let level = priced.level c (omega (arith, taker, are.one_each)) in
    let is = steps.each c taker in
    let room = room_of-tiers p c limits.are_tiers taker in
    let in_room = assigned.placement.in_room c taker in
    let few : load xs c ≤ most_entries =
    omega (arith, count_by-le-length (λ x. x == c) xs, assigned.every, limits.few_entries) in
    let small : (tier_at p.tiers a).room ≤ greatest_room = (tier_small p.tiers a limits.small_tiers).room in
    elim (cases_eq t a) [
      | inl first ↦
          let room_there : (tier_at p.tiers t).room ≡ (tier_at p.tiers a).room = ap (λ u. (tier_at p.tiers u).room) first in
          let held = load-at_first p xs t limits.are_tiers assigned.placement lt first in
          elim (cases_lt (load xs c) (step_at s c).first) [
            | inr full ↦ omega (arith, held, full, is.first, room_there)
            | inl below ↦
                let no_fee = fee_first (step_at s c) (load xs c) below in
                absurd (omega (
                  arith,
                  above,
                  by.each t lt,
                  no_fee,
                  level.next (omega (arith, below, is.first, are.each c taker, room, small)),
                ))
          ]
      | inr other ↦
          let next : t ≡ a + 1 = elim (near.1) [
            | inl first ↦ absurd (other first)
            | inr next ↦ next
          ] in
          let own : (tier_at p.tiers (a + 1)).consumer ≡ c = ap (λ u. (tier_at p.tiers u).consumer) (sym next) in
          let fee : (step_at s c).fee ≡ (tier_at p.tiers t).fee =
          is.next own ∙ ap (λ u. (tier_at p.tiers u).fee) (sym next) in
          let room_there : room_in p.tiers c (a + 1) ≡ (tier_at p.tiers t).room =
          room_in-own p.tiers c (a + 1) own ∙ ap (λ u. (tier_at p.tiers u).room) (sym next) in
          let held = load-at_next p xs t limits.are_tiers assigned.placement lt other in
          elim (cases_lt (load xs c) (get_or rooms c 0)) [
            | inr full ↦ omega (arith, held, full, are.each c taker, room, room_there, in_room, few)
            | inl below ↦ elim (cases_lt (load xs c) (step_at s c).first) [
              | inl early ↦
                  absurd (omega (arith, above, by.each t lt, level.next below, fee_first (step_at s c) (load xs c) early))
              | inr late ↦
                  absurd (omega (
                    arith,
                    above,
                    by.each t lt,
                    level.next below,
                    fee_beyond (step_at s c) (load xs c) late,
                    fee,
                  ))
            ]
          ]
    ]

-- so the prices by tier show the assignment cheapest
pub over_best : (p : Tiered) (rooms : List ℕ) (s : List Step) (xs prices ys : List ℕ) (total : ℕ)
    → IsWithinLimits p.tiers p.takers p.entries p.costs → AreRoomsOf p rooms → AreStepsOf p s
    → IsPriced (over p rooms) s xs prices → AreByTier p.tiers prices ys → total ≡ total_of p xs
    → total ≤ greatest_total → IsBest p xs ys total
over_best p rooms s xs prices ys total limits are steps priced by same small = record {
  assignment = over_assigned p rooms s xs prices are priced;
  shown = record {
    one_each = by.one_each;
    least = over_least p rooms s xs prices ys limits are steps priced by;
    filled = over_filled p rooms s xs prices ys limits are steps priced by;
  };
  sum = same;
  small_total = small;
}

-- none of them is great
pub over_small : (p : Tiered) (rooms : List ℕ) (s : List Step) (xs prices ys : List ℕ) → AreTiers p.takers p.tiers
    → AreRoomsOf p rooms → IsPriced (over p rooms) s xs prices → AreByTier p.tiers prices ys
    → All (λ price. price ≤ greatest_price) ys
over_small p rooms s xs prices ys tiers are priced by =
    All-from_get_or (λ price. price ≤ greatest_price) ys 0
    (λ t lt.
    let within : t < length p.tiers = omega (arith, lt, by.one_each) in
    let c = (tier_at p.tiers t).consumer in
    let in_list : c < length prices = omega (arith, (tiers.near t within).0, priced.one_each, are.one_each) in
    omega (
      arith,
      by.each t within,
      All-get_or (λ price. price ≤ greatest_price) prices c 0 in_list priced.small,
    ))

-- a rising list of numbers below n is no longer than n
rising_above : (xs : List ℕ) → IsStrictlyIncreasing xs → (k : ℕ) → k < length xs → k ≤ get_or xs k 0
rising_above xs rising zero lt = omega arith
rising_above xs rising (suc k) lt =
    let before = rising_above xs rising k (omega arith) in
    let next : suc k ≡ k + 1 = omega arith in
    rw next (omega (arith, before, rising k (omega arith)))

rising_short : (xs : List ℕ) (n : ℕ) → IsStrictlyIncreasing xs → All (λ i. i < n) xs → length xs ≤ n
rising_short xs n rising below =
    elim (cases_lt 0 (length xs)) [
      | inr none ↦ omega (arith, none)
      | inl some ↦
          let last = length xs - 1 in
          let lt : last < length xs = omega (arith, some) in
          omega (arith, some, rising_above xs rising last lt, All-get_or (λ i. i < n) xs last 0 lt below)
    ]

-- a term of a sum is no greater than the sum
term_le : (f : ℕ → ℕ) (n c : ℕ) → c < n → f c ≤ sum_below f n
term_le f zero c lt = absurd (omega arith)
term_le f (suc n) c lt =
    elim (cases_eq c n) [
      | inl e ↦ rw e (omega arith)
      | inr ne ↦ omega (arith, term_le f n c (omega (arith, lt, ne)))
    ]

-- the same consumers are reached
over_reached : (p : Tiered) (rooms set : List ℕ) → AreRoomsOf p rooms → (c : ℕ)
    → plain_certificate.is_reached (over p rooms) set c ≡ is_reached p set c
over_reached p rooms set are c = ap (λ n. list_any (λ i. is_some (get_or p.costs (i * n + c) None)) set) are.one_each

-- the places of a set that has too few are the same
cond_le : (b : Bool) (room most : ℕ) (sum : ℕ) → cond b (min room most) 0 ≤ sum → sum < most
    → cond b (min room most) 0 ≡ cond b room 0
cond_le true room most sum le small = omega (arith, le, small)
cond_le false room most sum le small = refl

pub over_short : (p : Tiered) (rooms set : List ℕ) → IsWithinLimits p.tiers p.takers p.entries p.costs
    → AreRoomsOf p rooms → plain_certificate.IsShortage (over p rooms) set → IsShortage p set
over_short p rooms set limits are short =
    let few : length set ≤ p.entries = rising_short set p.entries short.rising short.entries in
    let reached : ℕ → Bool = is_reached p set in
    let narrow : ℕ → ℕ = λ c. cond (plain_certificate.is_reached (over p rooms) set c) (get_or rooms c 0) 0 in
    let all : plain_certificate.places_of (over p rooms) set ≡ sum_below narrow p.takers =
    ap (sum_below narrow) are.one_each in
    let same : sum_below narrow p.takers ≡ places_of p set =
    sum_below-same narrow (λ c. cond (reached c) (room_of p c) 0) p.takers
    (λ c lt.
    let here : narrow c ≡ cond (reached c) (min (room_of p c) greatest_room) 0 =
    rw (over_reached p rooms set are c, are.each c lt) refl in
    let le : narrow c ≤ sum_below narrow p.takers = term_le narrow p.takers c lt in
    here ∙ cond_le (reached c) (room_of p c) greatest_room (sum_below narrow p.takers) (omega (arith, here, le))
    (omega (arith, short.too_few, all, few, limits.few_entries))) in
    record {
      rising = short.rising;
      entries = short.entries;
      too_few = omega (arith, short.too_few, all, same);
    }
