-- A problem with tiers and the plain one with a column for each tier have the same charges, assignments, totals,
-- certificates and places.
use Rattle.std.proofs.Common.{◌≡◌, ℕ, ◌+◌, ◌*◌, ◌<◌, ◌≤◌, Bool, cond, List, [], ◌∷◌, length, get_or, take, Option, Some}
use Rattle.std.proofs.Common.{None, option_map, unwrap_or, IfSome, IsSome, All, refl, sym, ap, ◌∙◌, subst, inl, inr}
use Rattle.std.proofs.Common.{arith, add_comm, suc-mul, zero-mul, length-append}
use Rattle.std.specs.Prelude.{is_some}
use Rattle.std.specs.List.{flat_map, range_with_len, list_any}
use Rattle.std.proofs.lemmas.Bool.{cases_lt}
use Rattle.std.proofs.lemmas.List.{length-map, length-take-le, get_or-map, get_or_past}
use Rattle.std.proofs.lemmas.List.Concat.{get_or-flat_map}
use Rattle.std.proofs.lemmas.List.Elements.{All-append, All-get_or, All-head, All-map, All-nil, All-tail}
use Rattle.std.proofs.lemmas.List.FromFn.{length-range_with_len, get_or-range_with_len, length-map-range_with_len}
use Rattle.std.proofs.lemmas.List.FromFn.{get_or-map-range_with_len}
use Rattle.sr_transport.specs.declared.problem.Tier.{Tier}
use Rattle.sr_transport.specs.Limits.{greatest_room, greatest_cost, greatest_fee, greatest_charge}
use Rattle.sr_transport.specs.Sum.{sum_below}
use Rattle.sr_transport.specs.Problem.{Tiered, AreTiers, IsSmallTier, IsWithinLimits, tier_at, cost_at, room_of}
use Rattle.sr_transport.specs.Assignment.{charge_at, charge_of, tier_of, tiers_of, total_of, IsAssignment, IsPlacement}
use Rattle.sr_transport.specs.Certificate.{IsLeast, ShowsCheapest, is_reached, places_of}
use Rattle.sr_transport.specs.ByTier.{charges_of, charges, by_tier}
use Rattle.sr_transport.specs.plain.Problem as plain
use Rattle.sr_transport.specs.plain.Assignment as plain_assignment
use Rattle.sr_transport.specs.plain.Certificate as plain_certificate
use Rattle.sr_transport.proofs.SumLemmas.{sum_below-same, sum_below-grouped}
use Rattle.sr_transport.proofs.TierLemmas.{no_tier, tier_of-own, tier_in_room, room_in, room_of-sum}

-- rows, one after another
pub rows_length : {X A : Type 0} (f : X → List A) (n : ℕ) (xs : List X) → ((x : X) → length (f x) ≡ n)
    → length (flat_map f xs) ≡ length xs * n
rows_length f n [] each = sym (zero-mul n)
rows_length f n (x ∷ xs) each =
    length-append (f x) (flat_map f xs)
    ∙ rw (each x, rows_length f n xs each) (add_comm n (length xs * n) ∙ sym (suc-mul (length xs) n))

pub rows_all : {X A : Type 0} (P : A → Type 0) (f : X → List A) (xs : List X) → ((x : X) → All P (f x))
    → All P (flat_map f xs)
rows_all P f [] each = All-nil P
rows_all P f (x ∷ xs) each = All-append P (f x) (flat_map f xs) (each x) (rows_all P f xs each)

pub charges_of-length : (p : Tiered) (i : ℕ) → length (charges_of p i) ≡ length p.tiers
charges_of-length p i = length-map-range_with_len (charge_at p i) 0 (length p.tiers)

pub columns-length : (p : Tiered) → length (by_tier p).rooms ≡ length p.tiers
columns-length p = length-map p.tiers (λ (tier : Tier). tier.room)

charges-before : (p : Tiered) (i : ℕ) → i < p.entries
    → length (flat_map (charges_of p) (take i (range_with_len 0 p.entries))) ≡ i * length p.tiers
charges-before p i lt =
    let rows = range_with_len 0 p.entries in
    rows_length (charges_of p) (length p.tiers) (take i rows) (charges_of-length p)
    ∙ ap (λ n. n * length p.tiers) (length-take-le i rows (omega (arith, length-range_with_len 0 p.entries)))

row-at : (p : Tiered) (i : ℕ) → i < p.entries → get_or (range_with_len 0 p.entries) i 0 ≡ i
row-at p i lt = omega (arith, get_or-range_with_len 0 p.entries i 0 lt)

-- the costs of the columns are the charges of the tiers
pub cost_at-by_tier : (p : Tiered) (i t : ℕ) → i < p.entries → t < length p.tiers
    → plain.cost_at (by_tier p) i t ≡ charge_at p i t
cost_at-by_tier p i t entry tier =
    let rows = range_with_len 0 p.entries in
    let here = row-at p i entry in
    let place : i * length (by_tier p).rooms + t ≡ length (flat_map (charges_of p) (take i rows)) + t =
    ap (λ n. i * n + t) (columns-length p) ∙ ap (λ n. n + t) (sym (charges-before p i entry)) in
    let within : t < length (charges_of p (get_or rows i 0)) = omega (arith, charges_of-length p (get_or rows i 0)) in
    ap (λ n. get_or (charges p) n None) place
    ∙ get_or-flat_map (charges_of p) rows i t 0 None (omega (arith, length-range_with_len 0 p.entries)) within
    ∙ ap (λ n. get_or (charges_of p n) t None) here
    ∙ get_or-map-range_with_len (charge_at p i) 0 (length p.tiers) t t None tier (omega arith)

pub cost_of-by_tier : (p : Tiered) (i t : ℕ) → i < p.entries → t < length p.tiers
    → plain.cost_of (by_tier p) i t ≡ charge_of p i t
cost_of-by_tier p i t entry tier = ap (λ (o : Option ℕ). unwrap_or o 0) (cost_at-by_tier p i t entry tier)

pub room_of-by_tier : (p : Tiered) (t : ℕ) → t < length p.tiers → plain.room_of (by_tier p) t ≡ (tier_at p.tiers t).room
room_of-by_tier p t lt = get_or-map (λ (tier : Tier). tier.room) p.tiers t no_tier 0 lt

-- limits
pub cost_at_small : (p : Tiered) (i c : ℕ) → IsWithinLimits p.tiers p.takers p.entries p.costs
    → IfSome (cost_at p i c) (λ n. n ≤ greatest_cost)
cost_at_small p i c limits =
    let place = i * p.takers + c in
    elim (cases_lt place (length p.costs)) [
      | inl lt ↦ All-get_or (λ cost. IfSome cost (λ n. n ≤ greatest_cost)) p.costs place None lt limits.small_costs
      | inr past ↦ let none : cost_at p i c ≡ None = get_or_past p.costs place None past in rw none tt
    ]

pub tier_small : (tiers : List Tier) (t : ℕ) → All IsSmallTier tiers → IsSmallTier (tier_at tiers t)
tier_small tiers t small =
    elim (cases_lt t (length tiers)) [
      | inl lt ↦ small t no_tier lt
      | inr past ↦
          subst IsSmallTier (sym (get_or_past tiers t no_tier past)) (record { room = omega arith; fee = omega arith })
    ]

with_fee : (fee : ℕ) (cost : Option ℕ) → fee ≤ greatest_fee → IfSome cost (λ n. n ≤ greatest_cost)
    → IfSome (option_map (λ n. n + fee) cost) (λ n. n ≤ greatest_charge)
with_fee fee None small cost = tt
with_fee fee (Some n) small cost = omega arith

pub charge_at_small : (p : Tiered) (i t : ℕ) → IsWithinLimits p.tiers p.takers p.entries p.costs
    → IfSome (charge_at p i t) (λ n. n ≤ greatest_charge)
charge_at_small p i t limits =
    let tier = tier_at p.tiers t in
    with_fee tier.fee (cost_at p i tier.consumer) (tier_small p.tiers t limits.small_tiers).fee
    (cost_at_small p i tier.consumer limits)

some_small : (charge : Option ℕ) → IfSome charge (λ n. n ≤ greatest_charge) → unwrap_or charge 0 ≤ greatest_charge
some_small None small = omega arith
some_small (Some n) small = small

pub charge_small : (p : Tiered) (i t : ℕ) → IsWithinLimits p.tiers p.takers p.entries p.costs
    → charge_of p i t ≤ greatest_charge
charge_small p i t limits = some_small (charge_at p i t) (charge_at_small p i t limits)

pub by_tier-within : (p : Tiered) → IsWithinLimits p.tiers p.takers p.entries p.costs
    → plain.IsWithinLimits (by_tier p).rooms p.entries (by_tier p).costs
by_tier-within p limits =
    let rows = range_with_len 0 p.entries in
    let small : Option ℕ → Type 0 = λ charge. IfSome charge (λ n. n ≤ greatest_charge) in
    record {
      consumers = omega (arith, columns-length p, limits.few_tiers);
      few_entries = limits.few_entries;
      pairs =
          rows_length (charges_of p) (length p.tiers) rows (charges_of-length p)
          ∙ ap (λ n. n * length p.tiers) (length-range_with_len 0 p.entries)
          ∙ ap (λ n. p.entries * n) (sym (columns-length p));
      small_rooms =
          All-map (λ room. room ≤ greatest_room) (λ (tier : Tier). tier.room) p.tiers
          (λ t d lt. (limits.small_tiers t d lt).room);
      small_costs =
          rows_all small (charges_of p) rows
          (λ i. All-map small (charge_at p i) (range_with_len 0 (length p.tiers))
          (λ k d lt. charge_at_small p i _ limits));
    }

-- the tiers of the entries, by index
pub tiers_of-length : (p : Tiered) (xs : List ℕ) → length (tiers_of p xs) ≡ length xs
tiers_of-length p xs = length-map-range_with_len (tier_of p xs) 0 (length xs)

pub tiers_of-at : (p : Tiered) (xs : List ℕ) (i : ℕ) → i < length xs → get_or (tiers_of p xs) i 0 ≡ tier_of p xs i
tiers_of-at p xs i lt = get_or-map-range_with_len (tier_of p xs) 0 (length xs) i i 0 lt (omega arith)

-- what is charged at a tier is charged if the consumer is allowed
charge_is_some : (fee : ℕ) (cost : Option ℕ) → IsSome cost → IsSome (option_map (λ n. n + fee) cost)
charge_is_some fee None some = some
charge_is_some fee (Some n) some = some

pub charged : (p : Tiered) (i c t : ℕ) → (tier_at p.tiers t).consumer ≡ c → IsSome (cost_at p i c)
    → IsSome (charge_at p i t)
charged p i c t own some =
    charge_is_some (tier_at p.tiers t).fee (cost_at p i (tier_at p.tiers t).consumer)
    (subst (λ x. IsSome (cost_at p i x)) (sym own) some)

-- an entry of a placement is charged in its tier
pub tier_of-charged : (p : Tiered) (xs : List ℕ) (i : ℕ) → AreTiers p.takers p.tiers → IsPlacement p xs → i < length xs
    → IsSome (charge_at p i (tier_of p xs i))
tier_of-charged p xs i are placed lt =
    charged p i (get_or xs i 0) (tier_of p xs i) (tier_of-own p xs i are placed lt).own (placed.allowed i lt).1

tier_allowed : (p : Tiered) (xs : List ℕ) (i : ℕ) → AreTiers p.takers p.tiers → IsAssignment p xs → i < length xs
    → plain.IsAllowed (by_tier p) i (get_or (tiers_of p xs) i 0)
tier_allowed p xs i are assigned lt =
    let t = tier_of p xs i in
    let own = tier_of-own p xs i are assigned.placement lt in
    let entry : i < p.entries = omega (arith, assigned.every) in
    subst (plain.IsAllowed (by_tier p) i) (sym (tiers_of-at p xs i lt)) (
      omega (arith, columns-length p, own.within),
      subst (λ (o : Option ℕ). IsSome o) (sym (cost_at-by_tier p i t entry own.within))
          (tier_of-charged p xs i are assigned.placement lt),
    )

-- the tiers of an assignment are an assignment to the columns
pub tiers_assigned : (p : Tiered) (xs : List ℕ) → AreTiers p.takers p.tiers → IsAssignment p xs
    → plain_assignment.IsAssignment (by_tier p) (tiers_of p xs)
tiers_assigned p xs are assigned = record {
  every = tiers_of-length p xs ∙ assigned.every;
  placement = record {
    allowed = λ i lt. tier_allowed p xs i are assigned (omega (arith, tiers_of-length p xs));
    in_room = λ t lt.
        let within : t < length p.tiers = omega (arith, columns-length p) in
        omega (arith, tier_in_room p xs t are assigned.placement within, room_of-by_tier p t within);
  };
}

-- the totals are the same
pub total_of-by_tier : (p : Tiered) (xs : List ℕ) → AreTiers p.takers p.tiers → IsAssignment p xs
    → plain_assignment.total_of (by_tier p) (tiers_of p xs) ≡ total_of p xs
total_of-by_tier p xs are assigned =
    let costs : ℕ → ℕ = λ i. plain.cost_of (by_tier p) i (get_or (tiers_of p xs) i 0) in
    let charged : ℕ → ℕ = λ i. charge_of p i (tier_of p xs i) in
    ap (sum_below costs) (tiers_of-length p xs)
    ∙ sum_below-same costs charged (length xs) (λ i lt.
    ap (plain.cost_of (by_tier p) i) (tiers_of-at p xs i lt)
    ∙ cost_of-by_tier p i (tier_of p xs i) (omega (arith, assigned.every))
    (tier_of-own p xs i are assigned.placement lt).within)

-- a tier that is least among the tiers is least among the columns, and the other way round
least-by_tier : (p : Tiered) (prices : List ℕ) (i t : ℕ) → i < p.entries → t < length p.tiers → IsLeast p prices i t
    → plain_certificate.IsLeast (by_tier p) prices i t
least-by_tier p prices i t entry tier least u allowed =
    let other : u < length p.tiers = omega (arith, columns-length p, allowed.0) in
    let some : IsSome (charge_at p i u) =
    subst (λ (o : Option ℕ). IsSome o) (cost_at-by_tier p i u entry other) allowed.1 in
    omega (arith, least u other some, cost_of-by_tier p i t entry tier, cost_of-by_tier p i u entry other)

least-from_by_tier : (p : Tiered) (prices : List ℕ) (i t : ℕ) → i < p.entries → t < length p.tiers
    → plain_certificate.IsLeast (by_tier p) prices i t → IsLeast p prices i t
least-from_by_tier p prices i t entry tier least u other some =
    let column : u < length (by_tier p).rooms = omega (arith, columns-length p) in
    let charge : IsSome (plain.cost_at (by_tier p) i u) =
    subst (λ (o : Option ℕ). IsSome o) (sym (cost_at-by_tier p i u entry other)) some in
    omega (arith, least u (column, charge), cost_of-by_tier p i t entry tier, cost_of-by_tier p i u entry other)

-- prices that show an assignment cheapest show its tiers cheapest in the columns
pub shown-by_tier : (p : Tiered) (xs prices : List ℕ) → AreTiers p.takers p.tiers → IsAssignment p xs
    → ShowsCheapest p xs prices
    → plain_certificate.ShowsCheapest (by_tier p) (tiers_of p xs) prices
shown-by_tier p xs prices are assigned shows = record {
  one_each = shows.one_each ∙ sym (columns-length p);
  least = λ i lt.
      let here : i < length xs = omega (arith, tiers_of-length p xs) in
      let own = tier_of-own p xs i are assigned.placement here in
      subst (plain_certificate.IsLeast (by_tier p) prices i) (sym (tiers_of-at p xs i here))
      (least-by_tier p prices i (tier_of p xs i) (omega (arith, assigned.every)) own.within (shows.least i here));
  filled = λ t lt some.
      let within : t < length p.tiers = omega (arith, columns-length p) in
      shows.filled t within some ∙ sym (room_of-by_tier p t within);
}

-- and the other way round
pub shown-from_by_tier : (p : Tiered) (xs prices : List ℕ) → AreTiers p.takers p.tiers → IsAssignment p xs
    → plain_certificate.ShowsCheapest (by_tier p) (tiers_of p xs) prices → ShowsCheapest p xs prices
shown-from_by_tier p xs prices are assigned shows = record {
  one_each = shows.one_each ∙ columns-length p;
  least = λ i here.
      let lt : i < length (tiers_of p xs) = omega (arith, tiers_of-length p xs) in
      let own = tier_of-own p xs i are assigned.placement here in
      least-from_by_tier p prices i (tier_of p xs i) (omega (arith, assigned.every)) own.within
      (subst (plain_certificate.IsLeast (by_tier p) prices i) (tiers_of-at p xs i here) (shows.least i lt));
  filled = λ t within some.
      let lt : t < length (by_tier p).rooms = omega (arith, columns-length p) in
      shows.filled t lt some ∙ room_of-by_tier p t within;
}

-- a set reaches a tier exactly if it reaches the consumer
charge_shows : (fee : ℕ) (cost : Option ℕ) → is_some (option_map (λ n. n + fee) cost) ≡ is_some cost
charge_shows fee None = refl
charge_shows fee (Some n) = refl

any_same : (f g : ℕ → Bool) (P : ℕ → Type 0) (set : List ℕ) → ((i : ℕ) → P i → f i ≡ g i) → All P set
    → list_any f set ≡ list_any g set
any_same f g P [] same all = refl
any_same f g P (i ∷ set) same all =
    rw (same i (All-head P i set all), any_same f g P set same (All-tail P i set all)) refl

reached-by_tier : (p : Tiered) (set : List ℕ) (t : ℕ) → All (λ i. i < p.entries) set → t < length p.tiers
    → plain_certificate.is_reached (by_tier p) set t ≡ is_reached p set (tier_at p.tiers t).consumer
reached-by_tier p set t entries lt =
    any_same (λ i. is_some (plain.cost_at (by_tier p) i t)) (λ i. is_some (cost_at p i (tier_at p.tiers t).consumer))
    (λ i. i < p.entries) set
    (λ i entry. ap (λ (o : Option ℕ). is_some o) (cost_at-by_tier p i t entry lt)
    ∙ charge_shows (tier_at p.tiers t).fee (cost_at p i (tier_at p.tiers t).consumer))
    entries

-- the places at the columns that a set reaches are those at the consumers
pub places-by_tier : (p : Tiered) (set : List ℕ) → AreTiers p.takers p.tiers → All (λ i. i < p.entries) set
    → plain_certificate.places_of (by_tier p) set ≡ places_of p set
places-by_tier p set are entries =
    let who : ℕ → ℕ = λ t. (tier_at p.tiers t).consumer in
    let room : ℕ → ℕ = λ t. (tier_at p.tiers t).room in
    let reached : ℕ → Bool = is_reached p set in
    let columns : ℕ → ℕ = λ t. cond (plain_certificate.is_reached (by_tier p) set t) (plain.room_of (by_tier p) t) 0 in
    let tiers : ℕ → ℕ = λ t. cond (reached (who t)) (room t) 0 in
    let sums : ℕ → ℕ = λ c. cond (reached c) (sum_below (room_in p.tiers c) (length p.tiers)) 0 in
    let rooms : ℕ → ℕ = λ c. cond (reached c) (room_of p c) 0 in
    ap (sum_below columns) (columns-length p)
    ∙ sum_below-same columns tiers (length p.tiers) (λ t lt.
    ap (λ b. cond b (plain.room_of (by_tier p) t) 0) (reached-by_tier p set t entries lt)
    ∙ ap (λ n. cond (reached (who t)) n 0) (room_of-by_tier p t lt))
    ∙ sum_below-grouped who room reached (length p.tiers) p.takers (λ t lt. (are.near t lt).0)
    ∙ sum_below-same sums rooms p.takers (λ c lt. ap (λ n. cond (reached c) n 0) (sym (room_of-sum p c)))
