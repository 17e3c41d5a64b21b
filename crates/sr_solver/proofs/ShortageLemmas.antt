-- Where no path ends at a consumer with room, the new entry and the entries at closed consumers have too few places.
use Rattle.std.proofs.Common.{◌≡◌, ℕ, zero, suc, ◌+◌, ◌*◌, ◌<◌, ◌≤◌, ◌⊎◌, Bool, true, false, cond, List, [], ◌∷◌, ◌++◌}
use Rattle.std.proofs.Common.{length, get_or, refl, ap, ◌∙◌, inl, inr, arith, length-append, append-nil}
use Rattle.std.specs.Prelude.{is_some}
use Rattle.std.specs.List.{All, Any}
use Rattle.std.specs.List.Sorted.{IsStrictlyIncreasing}
use Rattle.std.proofs.lemmas.Bool.{cases_eq, cases_lt}
use Rattle.std.proofs.lemmas.List.{get_or_past, get_or_append_left, get_or_push}
use Rattle.std.proofs.lemmas.List.Elements.{All-nil, All-append, All-push, All-weaker, All-get_or, All-from_get_or}
use Rattle.std.proofs.lemmas.List.Folds.{Any-from_list_any}
use Rattle.sr_transport.specs.{sum_below, Transport, consumers}
use Rattle.sr_transport.specs.Limits.{greatest_room}
use Rattle.sr_transport.specs.plain.Problem.{IsWithinLimits, room_of, cost_at, IsAllowed}
use Rattle.sr_transport.specs.plain.Assignment.{load}
use Rattle.sr_transport.specs.plain.Certificate.{is_reached, places_of, IsShortage}
use Rattle.sr_transport.proofs.SumLemmas.{sum_below-le, sum_below-le_most, sum_by_below, sum_by-loads}
use Rattle.sr_transport.proofs.PlainLimitLemmas.{room_small}
use Rattle.sr_solver.specs.Order.{numbers_below}
use Rattle.sr_solver.proofs.OrderLemmas.{length-numbers_below, numbers_at, range_all}
use Rattle.sr_solver.specs.declared.label.Label.{Label}
use Rattle.sr_solver.specs.Labels.{no_label, label_at}
use Rattle.sr_solver.specs.Search.{IsStuck}
use Rattle.sr_solver.specs.Shortage.{stranded_below}

-- one more, above all of a rising list
pub rising_push : (xs : List ℕ) (y : ℕ) → IsStrictlyIncreasing xs → All (λ x. x < y) xs
    → IsStrictlyIncreasing (xs ++ y ∷ [])
rising_push xs y rising below k lt =
    let short : k + 1 < length xs + 1 = omega (arith, lt, length-append xs (y ∷ [])) in
    let front : get_or (xs ++ y ∷ []) k 0 ≡ get_or xs k 0 = get_or_append_left xs (y ∷ []) 0 k (omega arith) in
    elim (cases_lt (k + 1) (length xs)) [
      | inl within ↦
          let next : get_or (xs ++ y ∷ []) (k + 1) 0 ≡ get_or xs (k + 1) 0 =
          get_or_append_left xs (y ∷ []) 0 (k + 1) within in
          omega (arith, front, next, rising k within)
      | inr past ↦
          let next : get_or (xs ++ y ∷ []) (k + 1) 0 ≡ y = get_or_push xs y 0 (k + 1) (omega arith) in
          omega (arith, front, next, All-get_or (λ x. x < y) xs k 0 (omega arith) below)
    ]

-- 1 at a closed consumer
abbrev once : List Label → ℕ → ℕ
once labels c = cond (label_at labels c).closed 1 0

-- how many entries are stranded
length_if : (b : Bool) (n : ℕ) → length (cond b (n ∷ []) []) ≡ cond b 1 0
length_if true n = refl
length_if false n = refl

length-stranded : (labels : List Label) (xs : List ℕ) (n : ℕ)
    → length (stranded_below labels xs n) ≡ sum_below (λ i. once labels (get_or xs i 0)) n
length-stranded labels xs zero = refl
length-stranded labels xs (suc n) =
    let b : Bool = (label_at labels (get_or xs n 0)).closed in
    omega (
      arith,
      length-append (stranded_below labels xs n) (cond b (n ∷ []) []),
      length_if b n,
      length-stranded labels xs n,
    )

-- which they are
abbrev IsStranded : List Label → List ℕ → ℕ → ℕ → Type 0
IsStranded labels xs n i = (i < n) × ((label_at labels (get_or xs i 0)).closed ≡ true)

all_if : (P : ℕ → Type 0) (b : Bool) (n : ℕ) → (b ≡ true → P n) → All P (cond b (n ∷ []) [])
all_if P true n here = All-push P [] n (All-nil P) (here refl)
all_if P false n here = All-nil P

stranded_are : (labels : List Label) (xs : List ℕ) (n : ℕ) → All (IsStranded labels xs n) (stranded_below labels xs n)
stranded_are labels xs zero = All-nil (IsStranded labels xs 0)
stranded_are labels xs (suc n) =
    let b : Bool = (label_at labels (get_or xs n 0)).closed in
    All-append (IsStranded labels xs (suc n)) (stranded_below labels xs n) (cond b (n ∷ []) [])
    (All-weaker (IsStranded labels xs n) (IsStranded labels xs (suc n)) (λ i h. (omega (arith, h.0), h.1))
    (stranded_below labels xs n) (stranded_are labels xs n))
    (all_if (IsStranded labels xs (suc n)) b n (λ closed. (omega arith, closed)))

-- they rise
rising_if : (b : Bool) (xs : List ℕ) (n : ℕ) → IsStrictlyIncreasing xs → All (λ i. i < n) xs
    → IsStrictlyIncreasing (xs ++ cond b (n ∷ []) [])
rising_if true xs n rising below = rising_push xs n rising below
rising_if false xs n rising below = rw append-nil rising

stranded_rise : (labels : List Label) (xs : List ℕ) (n : ℕ) → IsStrictlyIncreasing (stranded_below labels xs n)
stranded_rise labels xs zero = λ k lt. absurd (omega arith)
stranded_rise labels xs (suc n) =
    rising_if (label_at labels (get_or xs n 0)).closed (stranded_below labels xs n) n (stranded_rise labels xs n)
    (All-weaker (IsStranded labels xs n) (λ i. i < n) (λ i h. h.0) (stranded_below labels xs n)
    (stranded_are labels xs n))

-- terms of 0 add nothing
sum_below_still : (f : ℕ → ℕ) (m n : ℕ) → m ≤ n → ((i : ℕ) → m ≤ i → i < n → f i ≡ 0) → sum_below f n ≡ sum_below f m
sum_below_still f m zero le none = let same : m ≡ 0 = omega arith in rw same refl
sum_below_still f m (suc n) le none =
    elim (cases_eq m (suc n)) [
      | inl same ↦ rw same refl
      | inr ne ↦
          omega (
            arith,
            none n (omega arith) (omega arith),
            sum_below_still f m n (omega arith) (λ i lei lti. none i lei (omega arith)),
          )
    ]

-- no label past the last is closed
past_once : (labels : List Label) (c : ℕ) → length labels ≤ c → once labels c ≡ 0
past_once labels c past =
    let none : label_at labels c ≡ no_label = get_or_past labels c no_label past in
    let one : Label → ℕ = λ l. cond l.closed 1 0 in
    ap one none

-- the stranded entries are as many as the closed consumers hold
stranded_held : (p : Transport) (k : ℕ) (xs prices : List ℕ) (labels : List Label) → IsStuck p k xs prices labels
    → length (stranded_below labels xs k) ≡ sum_below (λ c. once labels c * load xs c) (consumers p)
stranded_held p k xs prices labels stuck =
    let nowhere : once labels (consumers p) ≡ 0 =
    past_once labels (consumers p) (omega (arith, stuck.lost.search.one_each)) in
    let waits : (i : ℕ) → k ≤ i → i < length xs → once labels (get_or xs i 0) ≡ 0 =
    λ i le lt. ap (once labels) (stuck.waiting i le (omega (arith, lt, stuck.every))) ∙ nowhere in
    let within : All (λ x. x < suc (consumers p)) xs =
    All-from_get_or (λ x. x < suc (consumers p)) xs 0 (λ i lt. elim (cases_lt i k) [
      | inl earlier ↦ omega (arith, (stuck.placed_below i earlier).0)
      | inr later ↦ omega (arith, stuck.waiting i later (omega (arith, lt, stuck.every)))
    ]) in
    let none : once labels (consumers p) * load xs (consumers p) ≡ 0 = rw nowhere (omega arith) in
    omega (
      arith,
      length-stranded labels xs k,
      sum_below_still (λ i. once labels (get_or xs i 0)) k (length xs) (omega (arith, stuck.entry, stuck.every)) waits,
      sum_by_below (once labels) xs,
      sum_by-loads (once labels) (suc (consumers p)) xs within,
      none,
    )

-- a consumer that a stranded entry or the new one is allowed is closed
reached_closed : (p : Transport) (k : ℕ) (xs prices : List ℕ) (labels : List Label) → IsStuck p k xs prices labels
    → (i c : ℕ) → (i ≡ k) ⊎ IsStranded labels xs k i → IsAllowed p i c → (label_at labels c).closed ≡ true
reached_closed p k xs prices labels stuck i c member allowed =
    elim member [
      | inl new ↦ stuck.lost.all_closed c allowed.0 (stuck.lost.search.new_offered c (rw (← new) allowed)).0
      | inr stranded ↦ elim (stuck.lost.covered i c stranded.0 stranded.1 allowed) [
        | inl within ↦ stuck.lost.all_closed c allowed.0 within.0
        | inr beyond ↦ absurd beyond
      ]
    ]

-- the places at a consumer are no more than its load, where it is closed, and none otherwise
places_held : (p : Transport) (k : ℕ) (xs prices : List ℕ) (labels : List Label) → IsStuck p k xs prices labels
    → (c : ℕ) → c < consumers p → (b : Bool) → (b ≡ true → (label_at labels c).closed ≡ true)
    → cond b (room_of p c) 0 ≤ once labels c * load xs c
places_held p k xs prices labels stuck c lt true closed =
    let one : Bool → ℕ = λ b. cond b 1 0 in
    let weight : once labels c ≡ 1 = ap one (closed refl) in
    let full : room_of p c ≤ load xs c = stuck.lost.full c lt (stuck.lost.search.reached c lt (closed refl)) in
    rw weight (omega (arith, full))
places_held p k xs prices labels stuck c lt false closed = omega arith

-- the set is a shortage
pub stuck_short : (p : Transport) (k : ℕ) (xs prices : List ℕ) (labels : List Label) → IsStuck p k xs prices labels
    → IsShortage p (stranded_below labels xs k ++ k ∷ [])
stuck_short p k xs prices labels stuck =
    let before : List ℕ = stranded_below labels xs k in
    let set : List ℕ = before ++ k ∷ [] in
    let are : All (IsStranded labels xs k) before = stranded_are labels xs k in
    let member : All (λ i. (i ≡ k) ⊎ IsStranded labels xs k i) set =
    All-push (λ i. (i ≡ k) ⊎ IsStranded labels xs k i) before k
    (All-weaker (IsStranded labels xs k) (λ i. (i ≡ k) ⊎ IsStranded labels xs k i) (λ i h. inr h) before are)
    (inl refl) in
    let closed : (c : ℕ) → c < consumers p → is_reached p set c ≡ true → (label_at labels c).closed ≡ true =
    λ c lt reached.
    let found : Any (λ i. is_some (cost_at p i c) ≡ true) set =
    Any-from_list_any (λ i. is_some (cost_at p i c)) set reached in
    let i : ℕ = found.1 in
    let at : get_or set found.0 i ≡ i = found.3 in
    reached_closed p k xs prices labels stuck i c
    (rw at at (All-get_or (λ j. (j ≡ k) ⊎ IsStranded labels xs k j) set found.0 i found.2 member)) (lt, found.4) in
    let places : places_of p set ≤ sum_below (λ c. once labels c * load xs c) (consumers p) =
    sum_below-le (λ c. cond (is_reached p set c) (room_of p c) 0) (λ c. once labels c * load xs c) (consumers p)
    (λ c lt. places_held p k xs prices labels stuck c lt (is_reached p set c) (closed c lt)) in
    record {
      rising = rising_push before k (stranded_rise labels xs k)
          (All-weaker (IsStranded labels xs k) (λ i. i < k) (λ i h. h.0) before are);
      entries = All-push (λ i. i < p.entries) before k
          (All-weaker (IsStranded labels xs k) (λ i. i < p.entries)
          (λ i h. omega (arith, h.0, stuck.entry)) before are) stuck.entry;
      too_few = omega (arith, places, stranded_held p k xs prices labels stuck, length-append before (k ∷ []));
    }

-- the same, where the lists are known by equations
pub stuck_short_is : (p : Transport) (k : ℕ) (xs prices : List ℕ) (labels : List Label) (ys : List ℕ)
    (others : List Label) (set : List ℕ)
    → IsStuck p k xs prices labels → ys ≡ xs → others ≡ labels → set ≡ stranded_below others ys k ++ k ∷ []
    → IsShortage p set
stuck_short_is p k xs prices labels ys others set stuck same_xs same_labels is_set =
    rw is_set (rw same_xs (rw same_labels (stuck_short p k xs prices labels stuck)))

-- the places of the first consumers are few
pub rooms_small : (p : Transport) (n : ℕ) → IsWithinLimits p.rooms p.entries p.costs → n ≤ consumers p
    → sum_below (room_of p) n ≤ n * greatest_room
rooms_small p n limits le =
    sum_below-le_most (room_of p) greatest_room n (λ c lt. room_small p c limits (omega arith))

-- a set of consumers has no more places than all
reached_room : (b : Bool) (room : ℕ) → cond b room 0 ≤ room
reached_room true room = omega arith
reached_room false room = omega arith

-- if there are more entries than places, all entries are a shortage
pub all_are_short : (p : Transport) (set : List ℕ) → sum_below (room_of p) (consumers p) < p.entries
    → set ≡ numbers_below p.entries → IsShortage p set
all_are_short p set few is =
    rw is (
    record {
      rising = λ k lt.
          let within : k + 1 < p.entries = omega (arith, lt, length-numbers_below p.entries) in
          omega (arith, numbers_at p.entries k 0 (omega arith), numbers_at p.entries (k + 1) 0 within);
      entries = range_all (λ i. i < p.entries) p.entries (λ i lt. lt);
      too_few =
          omega (
            arith,
            few,
            length-numbers_below p.entries,
            sum_below-le (λ c. cond (is_reached p (numbers_below p.entries) c) (room_of p c) 0)
                (room_of p) (consumers p)
                (λ c lt. reached_room (is_reached p (numbers_below p.entries) c) (room_of p c)),
          );
    }
    )
