-- Entries that are confined to consumers with too few places are a shortage.
use Rattle.std.proofs.Common.{◌≡◌, ℕ, ◌+◌, ◌*◌, ◌<◌, ◌≤◌, Bool, true, false, cond, List, [], ◌∷◌, ◌++◌, length, get_or, Option}
use Rattle.std.proofs.Common.{Some, None, length-append}
use Rattle.std.proofs.Common.{refl, sym, subst, inl, inr, arith}
use Rattle.std.specs.Prelude.{is_some, ◌==◌, IfSome}
use Rattle.std.specs.Int.{bit_at}
use Rattle.std.specs.List.{Any}
use Rattle.std.proofs.Math.ListN.{set, replicate}
use Rattle.std.proofs.lemmas.Bool.{cases_eq, cases_lt}
use Rattle.std.proofs.lemmas.List.{get_or_past, get_or_push, get_or_append_left, get_or-set_same, get_or-set_other}
use Rattle.std.proofs.lemmas.List.{get_or-replicate, length-replicate}
use Rattle.std.proofs.lemmas.List.Elements.{All-get_or, All-push, All-weaker, Contains-push, Contains-append_left}
use Rattle.std.proofs.lemmas.List.Folds.{Any-from_list_any}
use Rattle.std.proofs.lemmas.Bool.Decides.{nat_tests}
use Rattle.sr_transport.specs.{Transport, consumers, most_entries}
use Rattle.sr_transport.specs.Limits.{greatest_room, most_consumers}
use Rattle.sr_transport.specs.plain.Problem.{IsWithinLimits, room_of, cost_at}
use Rattle.sr_transport.specs.plain.Certificate.{is_reached, places_of, IsShortage}
use Rattle.sr_transport.proofs.SumLemmas.{sum_below-le, sum_below-le_most}
use Rattle.sr_transport.proofs.PlainLimitLemmas.{room_small}
use Rattle.sr_solver.specs.declared.crowd.Mover.{Mover}
use Rattle.sr_solver.specs.declared.crowd.Seating.{Seating}
use Rattle.sr_solver.specs.declared.set.ConsumerSet.{ConsumerSet}
use Rattle.sr_solver.specs.Sets.{IsIn, IsAmong}
use Rattle.sr_solver.specs.Pairs.{set_at, AreSetsOf}
use Rattle.sr_solver.proofs.ShortageLemmas.{rising_push}
use Rattle.sr_solver.specs.Crowd.{IsSeating, Sits, AreConfined, places_within, mover_at}

-- a room that counts or not
room_if : (b : Bool) (room most : ℕ) → room ≤ most → cond b room 0 ≤ most
room_if true room most le = le
room_if false room most le = omega arith

-- the places are few
pub within_small : (p : Transport) (set : ConsumerSet) (n : ℕ) → IsWithinLimits p.rooms p.entries p.costs
    → n ≤ consumers p → places_within p set n ≤ n * greatest_room
within_small p set n limits le =
    sum_below-le_most (λ c. cond (bit_at set.bits c == 1) (room_of p c) 0) greatest_room n
    (λ c lt. room_if (bit_at set.bits c == 1) (room_of p c) greatest_room (room_small p c limits (omega arith)))

-- where the one counts, the other does
room_counts : (reached here : Bool) (room : ℕ) → (reached ≡ true → here ≡ true) → cond reached room 0 ≤ cond here room 0
room_counts true here room counts = rw (counts refl) (omega arith)
room_counts false here room counts = omega arith

-- the next entry is confined, too
pub confined_more : (sets : List ConsumerSet) (n : ℕ) (among : ConsumerSet) (entries : List ℕ)
    → AreConfined sets n among entries → IsAmong (set_at sets n) among
    → AreConfined sets (n + 1) among (entries ++ n ∷ [])
confined_more sets n among entries are is = record {
  rising = rising_push entries n are.rising are.below;
  below = All-push (λ i. i < n + 1) entries n
      (All-weaker (λ i. i < n) (λ i. i < n + 1) (λ i lt. omega (arith, lt)) entries are.below) (omega arith);
  each = All-push (λ i. IsAmong (set_at sets i) among) entries n are.each is;
  all = λ i lt within. elim (cases_eq i n) [
    | inl e ↦ rw e (Contains-push entries n)
    | inr ne ↦ Contains-append_left entries (n ∷ []) i (are.all i (omega (arith, lt, ne)) within)
  ];
}

-- or it is not
pub confined_passed : (sets : List ConsumerSet) (n : ℕ) (among : ConsumerSet) (entries : List ℕ)
    → AreConfined sets n among entries → (IsAmong (set_at sets n) among → ⊥)
    → AreConfined sets (n + 1) among entries
confined_passed sets n among entries are not = record {
  rising = are.rising;
  below = All-weaker (λ i. i < n) (λ i. i < n + 1) (λ i lt. omega (arith, lt)) entries are.below;
  each = are.each;
  all = λ i lt within. elim (cases_eq i n) [
    | inl e ↦ absurd (not (rw e at within))
    | inr ne ↦ are.all i (omega (arith, lt, ne)) within
  ];
}

-- a consumer that a confined entry is allowed is in the set
reached_within : (p : Transport) (sets : List ConsumerSet) (among : ConsumerSet) (set : List ℕ) → AreSetsOf p sets
    → AreConfined sets (length sets) among set → (c : ℕ) → c < consumers p → is_reached p set c ≡ true
    → (bit_at among.bits c == 1) ≡ true
reached_within p sets among set are confined c lt reached =
    let found : Any (λ i. is_some (cost_at p i c) ≡ true) set =
    Any-from_list_any (λ i. is_some (cost_at p i c)) set reached in
    let i : ℕ = found.1 in
    let at : get_or set found.0 i ≡ i = found.3 in
    let within : IsAmong (set_at sets i) among =
    rw at at (All-get_or (λ j. IsAmong (set_at sets j) among) set found.0 i found.2 confined.each) in
    let is : IsIn among c = within c (are.each i c (lt, found.4)) in
    let bit : bit_at among.bits c ≡ 1 = is.1 in
    grind (arith, nat_tests)

-- so there are too few places for them
pub confined_short : (p : Transport) (sets : List ConsumerSet) (among : ConsumerSet) (set : List ℕ) → AreSetsOf p sets
    → AreConfined sets (length sets) among set → places_within p among (consumers p) < length set → IsShortage p set
confined_short p sets among set are confined few = record {
  rising = confined.rising;
  entries = rw are.one_each at confined.below;
  too_few =
      let places : places_of p set ≤ places_within p among (consumers p) =
      sum_below-le (λ c. cond (is_reached p set c) (room_of p c) 0)
      (λ c. cond (bit_at among.bits c == 1) (room_of p c) 0) (consumers p)
      (λ c lt. room_counts (is_reached p set c) (bit_at among.bits c == 1) (room_of p c)
      (reached_within p sets among set are confined c lt)) in
      omega (arith, places, few);
}

-- a list of zeros has 0 everywhere
pub zero_at : (n c : ℕ) → ◌≡◌ {A = ℕ} (get_or (replicate n 0) c 0) 0
zero_at n c = elim (cases_lt c n) [
  | inl lt ↦ get_or-replicate n c 0 0 lt
  | inr over ↦ get_or_past (replicate n 0) c 0 (omega (arith, over, length-replicate {A = ℕ} n 0))
]

-- nobody would move to one consumer more
pub none_more : (movers more : List (Option Mover)) → more ≡ movers ++ None ∷ [] → ((c : ℕ) → mover_at movers c ≡ None)
    → (c : ℕ) → mover_at more c ≡ None
none_more movers more is none c = rw is (elim (cases_lt c (length movers)) [
  | inl lt ↦ rw (get_or_append_left movers (None ∷ []) None c lt) (none c)
  | inr over ↦ elim (cases_eq c (length movers)) [
    | inl e ↦ get_or_push movers None None c (sym e)
    | inr ne ↦
        get_or_past (movers ++ None ∷ []) c None
        (omega (arith, over, ne, length-append {A = Option Mover} movers (None ∷ [])))
  ]
])

-- who would move to a consumer sits in a seat
pub mover_sits : (s : Seating) (c : ℕ) (mover : Mover) → IsSeating s → mover_at s.movers.items c ≡ Some mover
    → Sits s mover
mover_sits s c mover is at =
    let P : Option Mover → Type 0 = λ m. IfSome m (Sits s) in
    subst P at (is.movers c)

-- the seats of one consumer more follow
pub within_more : (starts rooms : List ℕ) (all c room : ℕ) → c < length starts → c < length rooms
    → ((d : ℕ) → get_or starts d 0 + get_or rooms d 0 ≤ all)
    → (d : ℕ) → get_or (set starts c all) d 0 + get_or (set rooms c room) d 0 ≤ all + room
within_more starts rooms all c room lts ltr are d = elim (cases_eq d c) [
  | inl e ↦ rw (e, get_or-set_same starts c all 0 lts, get_or-set_same rooms c room 0 ltr) (omega arith)
  | inr ne ↦ rw (get_or-set_other starts c d all 0 ne, get_or-set_other rooms c d room 0 ne) (omega (arith, are d))
]

-- and all of them are left
pub left_more : (left rooms : List ℕ) (c room : ℕ) → c < length left → c < length rooms
    → ((d : ℕ) → get_or left d 0 ≤ get_or rooms d 0)
    → (d : ℕ) → get_or (set left c room) d 0 ≤ get_or (set rooms c room) d 0
left_more left rooms c room ltl ltr are d = elim (cases_eq d c) [
  | inl e ↦ rw (e, get_or-set_same left c room 0 ltl, get_or-set_same rooms c room 0 ltr) (omega arith)
  | inr ne ↦ rw (get_or-set_other left c d room 0 ne, get_or-set_other rooms c d room 0 ne) (are d)
]

-- the lists of a seating have a place for each consumer
pub record HasEach (s : Seating) : Type 0 where
  pub starts : length s.starts.items ≡ most_consumers
  pub rooms : length s.rooms.items ≡ most_consumers
  pub left : length s.left.items ≡ most_consumers
  pub movers : length s.movers.items ≡ most_consumers

-- no seat is taken
pub no_seats : (s : Seating) (all : ℕ) → s.seats.items ≡ replicate all 0 → length s.sets.now ≤ most_entries
    → 0 < length s.sets.now → HasEach s → all ≤ most_consumers * most_entries
    → ((c : ℕ) → get_or s.starts.items c 0 + get_or s.rooms.items c 0 ≤ all)
    → ((c : ℕ) → get_or s.left.items c 0 ≤ get_or s.rooms.items c 0)
    → ((c : ℕ) → mover_at s.movers.items c ≡ None) → IsSeating s
no_seats s all seats few many each short within left movers =
    let count : length s.seats.items ≡ all = rw seats (length-replicate {A = ℕ} all 0) in
    record {
      few = few;
      starts_each = each.starts;
      rooms_each = each.rooms;
      left_each = each.left;
      movers_each = each.movers;
      short = omega (arith, count, short);
      within = λ c. omega (arith, within c, count);
      left = left;
      entries = λ q. rw (seats, zero_at all q) many;
      movers = λ c. rw (movers c) tt;
    }
