-- The problem of a snapshot is within the limits of a problem.
use Rattle.std.proofs.Common.{◌≡◌, ℕ, zero, suc, ◌+◌, ◌-◌, ◌*◌, ◌<◌, ◌≤◌, ◌^◌, ◌==◌, ◌⊎◌, inl, inr, Bool, true, false}
use Rattle.std.proofs.Common.{cond, List, [], ◌∷◌, ◌++◌, length, map, Option, Some, None, is_some, option_map}
use Rattle.std.proofs.Common.{unwrap_or, IfSome, All, refl, sym, ap, ◌∙◌, nat_eq, eq-eqb, mul-le-mul, add_comm, suc-mul}
use Rattle.std.proofs.Common.{zero-mul, length-append, get_or, take, subst, arith}
use Rattle.std.proofs.lemmas.Bool.{cases_lt, ne_eqb, lt-ltb, le-ltb}
use Rattle.std.proofs.lemmas.List.{append_assoc, append-nil, get_or-append-add, length-map, length-take-le}
use Rattle.std.proofs.lemmas.List.{flat_map_more, map_more, take_more}
use Rattle.std.proofs.lemmas.List.Elements.{All-append, All-cons, All-head, All-map, All-nil, All-tail}
use Rattle.std.proofs.lemmas.List.Sums.{sum_by-append, sum_by-cons, sum_by-le}
use Rattle.std.proofs.Math.ListN.{get_or-append}
use Rattle.std.proofs.Math.Nat.{eq-or-lt_of_le}
use Rattle.std.specs.Prelude.{nat_lt}
use Rattle.std.specs.List.{flat_map, sum_by}
use Rattle.std.specs.Option.{option_map_or}
use Rattle.std.specs.Cmp.Lexicographic.{pointwise}
use Rattle.sr_transport.specs.declared.problem.Tier.{Tier}
use Rattle.sr_transport.specs.{first_in}
use Rattle.sr_transport.specs.Problem.{AreTiers, HasFirst, IsOneOfTwo, IsSmallTier, IsWithinLimits}
use Rattle.sr_transport.specs.Problem.{room_of as room_in_problem, tier_at}
use Rattle.sr_policy.specs.declared.stranded.Stranded.{Stranded}
use Rattle.sr_policy.specs.declared.live.Live.{Live}
use Rattle.sr_policy.specs.Rules.{Text, value_at}
use Rattle.sr_policy.specs.Snapshot.{SnapshotState, AreRates, IsTier, IsWeight, IsSnapshot, places_left}
use Rattle.sr_policy.specs.Problem.{free_room, next_tier, room_at, rates_for, costs_at, costs_of, problem_of}
use Rattle.sr_policy.specs.Problem.{tier_count, tiers_at, tiers_from}

chosen : {X : Type 0} (P : X → Type 0) (test : Bool) (x : X) (other : Option X) → P x → IfSome other P
    → IfSome (cond test (Some x) other) P
chosen P true x other here there = here
chosen P false x other here there = there

-- the rates that a class has are rates
pub value_at_are_rates : (n : ℕ) (class : Text) (rates : List (Text × List (Option ℕ)))
    → All (λ c. AreRates n c.1) rates → IfSome (value_at class rates) (AreRates n)
value_at_are_rates n class [] all = tt
value_at_are_rates n class (c ∷ rates) all =
    chosen (AreRates n) (pointwise nat_eq class c.0) c.1 (value_at class rates)
    (All-head (λ x. AreRates n x.1) c rates all)
    (value_at_are_rates n class rates (All-tail (λ x. AreRates n x.1) c rates all))

no_rates_small : (live : List Live) → All (λ rate. IfSome rate (λ n. n ≤ 2 ^ 20)) (map (λ _. None) live)
no_rates_small live = All-map (λ rate. IfSome rate (λ n. n ≤ 2 ^ 20)) (λ _. None) live (λ k d lt. tt)

rates_or_none : (live : List Live) (found : Option (List (Option ℕ))) → IfSome found (AreRates (length live))
    → AreRates (length live) (unwrap_or found (map (λ _. None) live))
rates_or_none live None h = record { places = length-map live (λ _. None); small = no_rates_small live }
rates_or_none live (Some rates) h = h

pub rates_for_are_rates : (s : SnapshotState) (class : Text) → IsSnapshot s → AreRates (length s.live) (rates_for s class)
rates_for_are_rates s class ok =
    rates_or_none s.live (value_at class s.rates) (value_at_are_rates (length s.live) class s.rates ok.bounds.rates)

-- a rate and a weight of at most 2 ^ 20 make a cost of at most 2 ^ 40
pub cost_small : (rate weight : ℕ) → rate ≤ 2 ^ 20 → weight ≤ 2 ^ 20 → rate * weight ≤ 2 ^ 40
cost_small rate weight r w = mul-le-mul {n₁ = rate} {m₁ = weight} {n₂ = 2 ^ 20} {m₂ = 2 ^ 20} r w

cost_small_at : (weight : ℕ) (rate : Option ℕ) → weight ≤ 2 ^ 20 → IfSome rate (λ n. n ≤ 2 ^ 20)
    → IfSome (option_map (λ n. n * weight) rate) (λ c. c ≤ 2 ^ 40)
cost_small_at weight None w h = tt
cost_small_at weight (Some n) w h = cost_small n weight h w

costs_small : (weight : ℕ) (rates : List (Option ℕ)) → weight ≤ 2 ^ 20
    → All (λ rate. IfSome rate (λ n. n ≤ 2 ^ 20)) rates
    → All (λ cost. IfSome cost (λ c. c ≤ 2 ^ 40)) (costs_at weight rates)
costs_small weight rates w all =
    All-map (λ cost. IfSome cost (λ c. c ≤ 2 ^ 40)) (option_map (λ n. n * weight)) rates
    (λ k d lt. cost_small_at weight _ w (all k d lt))

-- rows of costs, one after another
rows_length : {X : Type 0} (f : X → List (Option ℕ)) (n : ℕ) (xs : List X) → ((x : X) → length (f x) ≡ n)
    → length (flat_map f xs) ≡ length xs * n
rows_length f n [] each = sym (zero-mul n)
rows_length f n (x ∷ xs) each =
    length-append (f x) (flat_map f xs)
    ∙ rw (each x, rows_length f n xs each) (add_comm n (length xs * n) ∙ sym (suc-mul (length xs) n))

rows_all : {X : Type 0} (P : Option ℕ → Type 0) (f : X → List (Option ℕ)) (Q : X → Type 0) (xs : List X)
    → ((x : X) → Q x → All P (f x)) → All Q xs → All P (flat_map f xs)
rows_all P f Q [] each all = All-nil P
rows_all P f Q (x ∷ xs) each all =
    All-append P (f x) (flat_map f xs) (each x (All-head Q x xs all)) (rows_all P f Q xs each (All-tail Q x xs all))

-- ---- the tiers of one consumer

-- a soft limit is at most the limit, so that no more is free than there is room
free_within : (limit pending : ℕ) (tier : Option (ℕ × ℕ)) → IfSome tier (IsTier limit)
    → option_map_or (λ t. t.0 - pending) tier (places_left limit pending) ≤ places_left limit pending
free_within limit pending None ok = omega arith
free_within limit pending (Some tier) ok = omega arith

pub free_room-le : (x : Live) → IfSome x.tier (IsTier x.limit) → free_room x ≤ room_at x
free_room-le x ok = free_within x.limit x.pending x.tier ok

-- the tiers of a consumer are one, and one more with a soft limit
length_next : (c : ℕ) (x : Live) (tier : Option (ℕ × ℕ)) → suc (length (next_tier c x tier)) ≡ cond (is_some tier) 2 1
length_next c x None = refl
length_next c x (Some tier) = refl

pub length-tiers_at : (c : ℕ) (x : Live) → length (tiers_at c x) ≡ tier_count x
length-tiers_at c x = length_next c x x.tier

count_few : (tier : Option (ℕ × ℕ)) → cond (is_some tier) 2 1 ≤ 2
count_few None = omega arith
count_few (Some tier) = omega arith

pub tier_count-le : (x : Live) → tier_count x ≤ 2
tier_count-le x = count_few x.tier

next_own : (c : ℕ) (x : Live) (tier : Option (ℕ × ℕ)) → All (λ t. t.consumer ≡ c) (next_tier c x tier)
next_own c x None = All-nil (λ (t : Tier). t.consumer ≡ c)
next_own c x (Some tier) = All-cons (λ (t : Tier). t.consumer ≡ c) _ [] refl (All-nil (λ (t : Tier). t.consumer ≡ c))

tiers_at_own : (c : ℕ) (x : Live) → All (λ t. t.consumer ≡ c) (tiers_at c x)
tiers_at_own c x = All-cons (λ (t : Tier). t.consumer ≡ c) _ (next_tier c x x.tier) refl (next_own c x x.tier)

-- no room and no fee above the greatest
next_small : (c : ℕ) (x : Live) (tier : Option (ℕ × ℕ)) → IfSome tier (IsTier x.limit) → x.limit ≤ 1000000000
    → All IsSmallTier (next_tier c x tier)
next_small c x None ok small = All-nil IsSmallTier
next_small c x (Some tier) ok small =
    All-cons IsSmallTier _ [] (record { room = omega arith; fee = ok.fee }) (All-nil IsSmallTier)

tiers_at_small : (c : ℕ) (x : Live) → IfSome x.tier (IsTier x.limit) → x.limit ≤ 1000000000
    → All IsSmallTier (tiers_at c x)
tiers_at_small c x ok small =
    let within = free_room-le x ok in
    All-cons IsSmallTier _ (next_tier c x x.tier) (record { room = omega (arith, within); fee = omega arith })
    (next_small c x x.tier ok small)

-- ---- where tiers begin, and how much room there is for a consumer

-- the room that a tier has for consumer c
abbrev room_if : ℕ → Tier → ℕ
room_if c tier = cond (tier.consumer == c) tier.room 0

abbrev room_in : List Tier → ℕ → ℕ
room_in tiers c = sum_by (room_if c) tiers

counted_below : (x d n : ℕ) → d ≤ x → cond (nat_lt x d) n 0 ≡ 0
counted_below x d n le = ap (λ b. cond b n 0) (le-ltb x d le)

counted_above : (x d n : ℕ) → x < d → cond (nat_lt x d) n 0 ≡ n
counted_above x d n lt = ap (λ b. cond b n 0) (lt-ltb x d lt)

room_own : (x c room : ℕ) → x ≡ c → cond (x == c) room 0 ≡ room
room_own x c room own = ap (λ b. cond b room 0) (eq-eqb x c own)

room_other : (x c room : ℕ) → (x ≡ c → ⊥) → cond (x == c) room 0 ≡ 0
room_other x c room other = ap (λ b. cond b room 0) (ne_eqb x c other)

first_in-cons : (d : ℕ) (a : Tier) (tiers : List Tier)
    → first_in (a ∷ tiers) d ≡ cond (nat_lt a.consumer d) 1 0 + first_in tiers d
first_in-cons d a tiers = sum_by-cons (λ tier. cond (nat_lt tier.consumer d) 1 0) a tiers

first_in-append : (d : ℕ) (own rest : List Tier) → first_in (own ++ rest) d ≡ first_in own d + first_in rest d
first_in-append d own rest = sum_by-append (λ tier. cond (nat_lt tier.consumer d) 1 0) own rest

own_below : (c d : ℕ) (own : List Tier) → All (λ t. t.consumer ≡ c) own → d ≤ c → first_in own d ≡ 0
own_below c d [] all le = refl
own_below c d (a ∷ own) all le =
    let here : a.consumer ≡ c = All-head (λ (t : Tier). t.consumer ≡ c) a own all in
    let more = own_below c d own (All-tail (λ (t : Tier). t.consumer ≡ c) a own all) le in
    omega (arith, first_in-cons d a own, counted_below a.consumer d 1 (omega arith), more)

own_above : (c d : ℕ) (own : List Tier) → All (λ t. t.consumer ≡ c) own → c < d → first_in own d ≡ length own
own_above c d [] all lt = refl
own_above c d (a ∷ own) all lt =
    let here : a.consumer ≡ c = All-head (λ (t : Tier). t.consumer ≡ c) a own all in
    let more = own_above c d own (All-tail (λ (t : Tier). t.consumer ≡ c) a own all) lt in
    omega (arith, first_in-cons d a own, counted_above a.consumer d 1 (omega arith), more)

other_room : (c d : ℕ) (own : List Tier) → All (λ t. t.consumer ≡ c) own → (c ≡ d → ⊥) → room_in own d ≡ 0
other_room c d [] all other = refl
other_room c d (a ∷ own) all other =
    let here : a.consumer ≡ c = All-head (λ (t : Tier). t.consumer ≡ c) a own all in
    let more = other_room c d own (All-tail (λ (t : Tier). t.consumer ≡ c) a own all) other in
    omega (arith, sum_by-cons (room_if d) a own, room_other a.consumer d a.room (λ same. other (sym here ∙ same)), more)

-- ---- the tiers of several consumers

-- these are the tiers of the consumers from number start on, before number past
pub record AreTiersFrom (start past : ℕ) (tiers : List Tier) : Type 0 where
  pub first : (c : ℕ) → start ≤ c → c < past → HasFirst tiers c
  pub near : (t : ℕ) → t < length tiers → IsOneOfTwo past tiers t
  pub from : (t : ℕ) → t < length tiers → start ≤ (tier_at tiers t).consumer
  pub none : (c : ℕ) → c ≤ start → first_in tiers c ≡ 0

-- these are the tiers of consumer c alone
record AreOwn (c : ℕ) (own : List Tier) : Type 0 where
  some : 0 < length own
  few : length own ≤ 2
  all : All (λ t. t.consumer ≡ c) own
  free : (tier_at own 0).fee ≡ 0

has_first : (tiers : List Tier) (c f : ℕ) → first_in tiers c ≡ f → f < length tiers → (tier_at tiers f).consumer ≡ c
    → (tier_at tiers f).fee ≡ 0
    → HasFirst tiers c
has_first tiers c f is here own free = record {
  here = subst (λ k. k < length tiers) (sym is) here;
  own = subst (λ k. (tier_at tiers k).consumer ≡ c) (sym is) own;
  free = subst (λ k. (tier_at tiers k).fee ≡ 0) (sym is) free;
}

one_of_two : (past : ℕ) (tiers : List Tier) (t c f : ℕ) → (tier_at tiers t).consumer ≡ c → c < past
    → first_in tiers c ≡ f
    → (t ≡ f) ⊎ (t ≡ f + 1) → IsOneOfTwo past tiers t
one_of_two past tiers t c f own lt is near =
    subst (λ x. (x < past) × ((t ≡ first_in tiers x) ⊎ (t ≡ first_in tiers x + 1))) (sym own)
    (lt, subst (λ k. (t ≡ k) ⊎ (t ≡ k + 1)) (sym is) near)

one_of_few : (t : ℕ) → t < 2 → (t ≡ 0) ⊎ (t ≡ 0 + 1)
one_of_few zero lt = inl refl
one_of_few (suc zero) lt = inr refl
one_of_few (suc (suc t)) lt = absurd (omega arith)

further : (k u f : ℕ) → (u ≡ f) ⊎ (u ≡ f + 1) → (k + u ≡ k + f) ⊎ (k + u ≡ k + f + 1)
further k u f (inl same) = inl (omega arith)
further k u f (inr next) = inr (omega arith)

-- where the tiers of a later consumer begin, after those of consumer c
later : (c d : ℕ) (own rest : List Tier) → AreOwn c own → c < d
    → first_in (own ++ rest) d ≡ length own + first_in rest d
later c d own rest mine lt = omega (arith, first_in-append d own rest, own_above c d own mine.all lt)

-- the tier at a place of the first list, and at one after it
own_at : (c : ℕ) (own rest : List Tier) (t : ℕ) → AreOwn c own → t < length own → (tier_at (own ++ rest) t).consumer ≡ c
own_at c own rest t mine lt =
    ap (λ (tier : Tier). tier.consumer) (get_or-append own rest _ t lt) ∙ mine.all t _ lt

first_joined : (c past d : ℕ) (own rest : List Tier) → AreOwn c own → AreTiersFrom (c + 1) past rest → c ≤ d → d < past
    → (c ≡ d) ⊎ (c < d)
    → HasFirst (own ++ rest) d
first_joined c past d own rest mine others from lt (inl same) =
    let at_0 : first_in (own ++ rest) d ≡ 0 =
    omega (arith, first_in-append d own rest, own_below c d own mine.all (omega arith), others.none d (omega arith)) in
    has_first (own ++ rest) d 0 at_0 (omega (arith, mine.some, length-append own rest))
    (own_at c own rest 0 mine mine.some ∙ same)
    (ap (λ (tier : Tier). tier.fee) (get_or-append own rest _ 0 mine.some) ∙ mine.free)
first_joined c past d own rest mine others from lt (inr after) =
    let there = others.first d (omega arith) lt in
    let at_u = get_or-append-add own rest (first_in rest d) (record { consumer = 0; room = 0; fee = 0 }) in
    has_first (own ++ rest) d (length own + first_in rest d) (later c d own rest mine after)
    (omega (arith, there.here, length-append own rest))
    (ap (λ (tier : Tier). tier.consumer) at_u ∙ there.own) (ap (λ (tier : Tier). tier.fee) at_u ∙ there.free)

-- a tier after those of consumer c
rest_at : (own rest : List Tier) (u : ℕ) → (tier_at (own ++ rest) (length own + u)).consumer ≡ (tier_at rest u).consumer
rest_at own rest u = ap (λ (tier : Tier). tier.consumer) (get_or-append-add own rest u _)

near_after : (c past u : ℕ) (own rest : List Tier) → AreOwn c own → AreTiersFrom (c + 1) past rest → u < length rest
    → IsOneOfTwo past (own ++ rest) (length own + u)
near_after c past u own rest mine others lt =
    let near = others.near u lt in
    let d = (tier_at rest u).consumer in
    let after : c < d = omega (arith, others.from u lt) in
    one_of_two past (own ++ rest) (length own + u) d (length own + first_in rest d) (rest_at own rest u) near.0
    (later c d own rest mine after) (further (length own) u (first_in rest d) near.1)

near_joined : (c past t : ℕ) (own rest : List Tier) → c < past → AreOwn c own → AreTiersFrom (c + 1) past rest
    → t < length own + length rest
    → (t < length own) ⊎ (length own ≤ t) → IsOneOfTwo past (own ++ rest) t
near_joined c past t own rest lt mine others within (inl here) =
    let at_0 : first_in (own ++ rest) c ≡ 0 =
    omega (arith, first_in-append c own rest, own_below c c own mine.all (omega arith), others.none c (omega arith)) in
    one_of_two past (own ++ rest) t c 0 (own_at c own rest t mine here) lt at_0 (one_of_few t (omega (arith, mine.few)))
near_joined c past t own rest lt mine others within (inr after) =
    let e : length own + (t - length own) ≡ t = omega arith in
    subst (λ k. IsOneOfTwo past (own ++ rest) k) e
    (near_after c past (t - length own) own rest mine others (omega arith))

from_joined : (c past t : ℕ) (own rest : List Tier) → AreOwn c own → AreTiersFrom (c + 1) past rest
    → t < length own + length rest
    → (t < length own) ⊎ (length own ≤ t) → c ≤ (tier_at (own ++ rest) t).consumer
from_joined c past t own rest mine others within (inl here) = omega (arith, own_at c own rest t mine here)
from_joined c past t own rest mine others within (inr after) =
    let e : length own + (t - length own) ≡ t = omega arith in
    subst (λ k. c ≤ (tier_at (own ++ rest) k).consumer) e
    (omega (arith, rest_at own rest (t - length own), others.from (t - length own) (omega arith)))

tiers_joined : (c past : ℕ) (own rest : List Tier) → c < past → AreOwn c own → AreTiersFrom (c + 1) past rest
    → AreTiersFrom c past (own ++ rest)
tiers_joined c past own rest lt mine others =
    let within : (t : ℕ) → t < length (own ++ rest) → t < length own + length rest =
    λ t h. rw (length-append own rest) at h in
    record {
      first = λ d from below. first_joined c past d own rest mine others from below (eq-or-lt_of_le from);
      near = λ t h. near_joined c past t own rest lt mine others (within t h) (cases_lt t (length own));
      from = λ t h. from_joined c past t own rest mine others (within t h) (cases_lt t (length own));
      none =
          λ d le. omega (arith, first_in-append d own rest, own_below c d own mine.all le, others.none d (omega arith));
    }

-- the tiers of the consumers from number c on are theirs
pub tiers_from_are : (c : ℕ) (live : List Live) → AreTiersFrom c (c + length live) (tiers_from c live)
tiers_from_are c [] = record {
  first = λ d from below. absurd (omega arith);
  near = λ t lt. absurd (omega arith);
  from = λ t lt. absurd (omega arith);
  none = λ d le. refl;
}
tiers_from_are c (x ∷ live) =
    let e : c + 1 + length live ≡ c + suc (length live) = omega arith in
    let own : AreOwn c (tiers_at c x) = record {
      some = omega arith;
      few = omega (arith, length-tiers_at c x, tier_count-le x);
      all = tiers_at_own c x;
      free = refl;
    } in
    tiers_joined c (c + suc (length live)) (tiers_at c x) (tiers_from (c + 1) live) (omega arith) own
    (subst (λ past. AreTiersFrom (c + 1) past (tiers_from (c + 1) live)) e (tiers_from_are (c + 1) live))

pub are_tiers : (live : List Live) → AreTiers (length live) (tiers_from 0 live)
are_tiers live =
    let e : 0 + length live ≡ length live = omega arith in
    let are = subst (λ past. AreTiersFrom 0 past (tiers_from 0 live)) e (tiers_from_are 0 live) in
    record { first = λ c lt. are.first c (omega arith) lt; near = are.near }

-- as many tiers as the consumers have
pub length-tiers_from : (c : ℕ) (live : List Live) → length (tiers_from c live) ≡ sum_by tier_count live
length-tiers_from c [] = refl
length-tiers_from c (x ∷ live) =
    omega (
      arith,
      length-append (tiers_at c x) (tiers_from (c + 1) live),
      length-tiers_at c x,
      length-tiers_from (c + 1) live,
      sum_by-cons tier_count x live,
    )

few_tiers : (c : ℕ) (live : List Live) → length live ≤ 64 → length (tiers_from c live) ≤ 128
few_tiers c live few =
    omega (arith, length-tiers_from c live, sum_by-le tier_count 2 live (λ k d lt. tier_count-le (get_or live k d)))

small_tiers : (c : ℕ) (live : List Live) → All (λ x. x.limit ≤ 1000000000) live
    → All (λ x. IfSome x.tier (IsTier x.limit)) live
    → All IsSmallTier (tiers_from c live)
small_tiers c [] limits tiers = All-nil IsSmallTier
small_tiers c (x ∷ live) limits tiers =
    let Limit : Live → Type 0 = λ y. y.limit ≤ 1000000000 in
    let Tiered : Live → Type 0 = λ y. IfSome y.tier (IsTier y.limit) in
    All-append IsSmallTier (tiers_at c x) (tiers_from (c + 1) live)
    (tiers_at_small c x (All-head Tiered x live tiers) (All-head Limit x live limits))
    (small_tiers (c + 1) live (All-tail Limit x live limits) (All-tail Tiered x live tiers))

-- where the tiers of consumer c + i begin: after those of the consumers before it
first_in-from : (c i : ℕ) (live : List Live) → first_in (tiers_from c live) (c + i) ≡ sum_by tier_count (take i live)
first_in-from c zero live = (tiers_from_are c live).none (c + 0) (omega arith)
first_in-from c (suc i) [] = refl
first_in-from c (suc i) (x ∷ live) =
    let e : c + 1 + i ≡ c + suc i = omega arith in
    let more = subst (λ d. first_in (tiers_from (c + 1) live) d ≡ sum_by tier_count (take i live)) e
    (first_in-from (c + 1) i live) in
    omega (
      arith,
      first_in-append (c + suc i) (tiers_at c x) (tiers_from (c + 1) live),
      own_above c (c + suc i) (tiers_at c x) (tiers_at_own c x) (omega arith),
      length-tiers_at c x,
      more,
      sum_by-cons tier_count x (take i live),
    )

pub first_in-live : (s : SnapshotState) (i : ℕ) → first_in (problem_of s).tiers i ≡ sum_by tier_count (take i s.live)
first_in-live s i =
    let e : 0 + i ≡ i = omega arith in
    subst (λ c. first_in (tiers_from 0 s.live) c ≡ sum_by tier_count (take i s.live)) e (first_in-from 0 i s.live)

-- the rooms of a consumer's tiers together are its room
next_room : (c : ℕ) (x : Live) (tier : Option (ℕ × ℕ))
    → room_in (next_tier c x tier) c ≡ cond (is_some tier) (room_at x - free_room x) 0
next_room c x None = refl
next_room c x (Some tier) = omega (arith, room_own c c (room_at x - free_room x) refl)

together : (limit pending : ℕ) (tier : Option (ℕ × ℕ)) → IfSome tier (IsTier limit)
    → option_map_or (λ t. t.0 - pending) tier (places_left limit pending)
    + cond (is_some tier) (places_left limit pending - option_map_or (λ t. t.0 - pending) tier (places_left limit pending)) 0
    ≡ places_left limit pending
together limit pending None ok = omega arith
together limit pending (Some tier) ok = omega arith

room-tiers_at : (c : ℕ) (x : Live) → IfSome x.tier (IsTier x.limit) → room_in (tiers_at c x) c ≡ room_at x
room-tiers_at c x ok =
    sum_by-cons (room_if c) (record { consumer = c; room = free_room x; fee = 0 }) (next_tier c x x.tier)
    ∙ rw (room_own c c (free_room x) refl, next_room c x x.tier) (together x.limit x.pending x.tier ok)

room-before : (c d : ℕ) (live : List Live) → d < c → room_in (tiers_from c live) d ≡ 0
room-before c d [] lt = refl
room-before c d (x ∷ live) lt =
    omega (
      arith,
      sum_by-append (room_if d) (tiers_at c x) (tiers_from (c + 1) live),
      other_room c d (tiers_at c x) (tiers_at_own c x) (λ same. omega arith),
      room-before (c + 1) d live (omega arith),
    )

room-from : (c i : ℕ) (live : List Live) (d : Live) → i < length live → All (λ x. IfSome x.tier (IsTier x.limit)) live
    → room_in (tiers_from c live) (c + i) ≡ room_at (get_or live i d)
room-from c i [] d lt tiers = absurd (omega arith)
room-from c zero (x ∷ live) d lt tiers =
    let e : c ≡ c + 0 = omega arith in
    let here = room-tiers_at c x (All-head (λ (y : Live). IfSome y.tier (IsTier y.limit)) x live tiers) in
    let there = room-before (c + 1) c live (omega arith) in
    let whole : room_in (tiers_at c x ++ tiers_from (c + 1) live) c ≡ room_at x =
    omega (arith, sum_by-append (room_if c) (tiers_at c x) (tiers_from (c + 1) live), here, there) in
    subst (λ k. room_in (tiers_at c x ++ tiers_from (c + 1) live) k ≡ room_at x) e whole
room-from c (suc i) (x ∷ live) d lt tiers =
    let e : c + 1 + i ≡ c + suc i = omega arith in
    let rest = room-from (c + 1) i live d (omega arith)
    (All-tail (λ (y : Live). IfSome y.tier (IsTier y.limit)) x live tiers) in
    let more = subst (λ k. room_in (tiers_from (c + 1) live) k ≡ room_at (get_or live i d)) e rest in
    omega (
      arith,
      sum_by-append (room_if (c + suc i)) (tiers_at c x) (tiers_from (c + 1) live),
      other_room c (c + suc i) (tiers_at c x) (tiers_at_own c x) (λ same. omega arith),
      more,
    )

pub room_of-live : (s : SnapshotState) (i : ℕ) (d : Live) → i < length s.live → All (λ x. IfSome x.tier (IsTier x.limit)) s.live
    → room_in_problem (problem_of s) i ≡ room_at (get_or s.live i d)
room_of-live s i d lt tiers =
    let e : 0 + i ≡ i = omega arith in
    subst (λ c. room_in (tiers_from 0 s.live) c ≡ room_at (get_or s.live i d)) e (room-from 0 i s.live d lt tiers)

pub problem_within : (s : SnapshotState) → IsSnapshot s
    → IsWithinLimits (tiers_from 0 s.live) (length s.live) (length s.stranded) (flat_map (costs_of s) s.stranded)
problem_within s ok = record {
  consumers = ok.bounds.few_live;
  few_tiers = few_tiers 0 s.live ok.bounds.few_live;
  few_entries = ok.bounds.few_stranded;
  are_tiers = are_tiers s.live;
  small_tiers = small_tiers 0 s.live ok.bounds.limits ok.bounds.tiers;
  pairs = rows_length (costs_of s) (length s.live) s.stranded
      (λ e. length-map (rates_for s e.class) (option_map (λ n. n * e.weight))
      ∙ (rates_for_are_rates s e.class ok).places);
  small_costs = rows_all (λ cost. IfSome cost (λ c. c ≤ 2 ^ 40)) (costs_of s) (λ e. IsWeight e.weight) s.stranded
      (λ e w. costs_small e.weight (rates_for s e.class) w.small (rates_for_are_rates s e.class ok).small)
      ok.bounds.weights;
}

-- rates that were found for a class are rates
pub found_are_rates : (n : ℕ) (class : Text) (rates listed : List (Text × List (Option ℕ))) (held : List (Option ℕ))
    → listed ≡ rates → Some held ≡ value_at class listed → All (λ c. AreRates n c.1) rates → AreRates n held
found_are_rates n class rates listed held same found all =
    let P : Option (List (Option ℕ)) → Type 0 = λ o. IfSome o (AreRates n) in
    let Q : List (Text × List (Option ℕ)) → Type 0 = λ r. IfSome (value_at class r) (AreRates n) in
    subst P (sym found) (subst Q (sym same) (value_at_are_rates n class rates all))

-- no rate for anybody
abbrev pub no_rates : List Live → List (Option ℕ)
no_rates live = map (λ _. None) live

no_rates_cost_nothing : (weight : ℕ) (live : List Live) → costs_at weight (no_rates live) ≡ no_rates live
no_rates_cost_nothing weight [] = refl
no_rates_cost_nothing weight (x ∷ live) = ap (λ t. None ∷ t) (no_rates_cost_nothing weight live)

costs_without : (weight : ℕ) (live : List Live) (found : Option (List (Option ℕ))) → found ≡ None
    → costs_at weight (unwrap_or found (no_rates live)) ≡ no_rates live
costs_without weight live found missing = rw missing (no_rates_cost_nothing weight live)

-- an entry of a class without rates may go nowhere
pub no_costs : (s : SnapshotState) (e : Stranded) (listed : List (Text × List (Option ℕ))) (live : List Live) → listed ≡ s.rates
    → None ≡ value_at e.class listed → live ≡ s.live → no_rates live ≡ costs_of s e
no_costs s e listed live same missing same_live =
    ap no_rates same_live
    ∙ sym (costs_without e.weight s.live (value_at e.class s.rates) (ap (value_at e.class) (sym same) ∙ sym missing))

-- one value more was pushed
pub value_added : {X Y : Type 0} (f : X → Y) (xs : List X) (i : ℕ) (d : X) (value : Y) (start old new : List Y)
    → i < length xs → value ≡ f (get_or xs i d) → old ≡ start ++ map f (take i xs) → new ≡ old ++ value ∷ []
    → new ≡ start ++ map f (take (i + 1) xs)
value_added f xs i d value start old new lt is held pushed =
    pushed ∙ ap (λ l. l ++ value ∷ []) held ∙ append_assoc start (map f (take i xs)) (value ∷ [])
    ∙ ap (λ y. start ++ (map f (take i xs) ++ y ∷ [])) is ∙ ap (λ l. start ++ l) (sym (map_more f xs i d lt))

-- the rows so far, and one more
pub row_added : {X : Type 0} (f : X → List (Option ℕ)) (xs : List X) (i : ℕ) (x : X) (old new : List (Option ℕ))
    → i < length xs → x ≡ get_or xs i x → old ≡ flat_map f (take i xs) → new ≡ old ++ f x
    → new ≡ flat_map f (take (i + 1) xs)
row_added f xs i x old new lt is old_is new_is =
    new_is ∙ ap (λ t. t ++ f x) old_is ∙ flat_map_more f [] (take i xs) x
    ∙ ap (flat_map f) (sym (take_more xs i x lt ∙ ap (λ y. take i xs ++ y ∷ []) (sym is)))

-- the tiers of one consumer more
tiers_from-push : (c : ℕ) (live : List Live) (x : Live)
    → tiers_from c (live ++ x ∷ []) ≡ tiers_from c live ++ tiers_at (c + length live) x
tiers_from-push c [] x =
    let e : c ≡ c + 0 = omega arith in
    append-nil (tiers_at c x) ∙ ap (λ n. tiers_at n x) e
tiers_from-push c (y ∷ live) x =
    let e : c + 1 + length live ≡ c + suc (length live) = omega arith in
    ap (λ tiers. tiers_at c y ++ tiers) (tiers_from-push (c + 1) live x)
    ∙ sym (append_assoc (tiers_at c y) (tiers_from (c + 1) live) (tiers_at (c + 1 + length live) x))
    ∙ ap (λ n. (tiers_at c y ++ tiers_from (c + 1) live) ++ tiers_at n x) e

pub tiers_added : (live : List Live) (n : ℕ) (x : Live) (old new : List Tier) → n < length live → x ≡ get_or live n x
    → old ≡ tiers_from 0 (take n live)
    → new ≡ old ++ tiers_at n x → new ≡ tiers_from 0 (take (n + 1) live)
tiers_added live n x old new lt is old_is new_is =
    let e : n ≡ 0 + length (take n live) = omega (arith, length-take-le n live (omega arith)) in
    new_is ∙ ap (λ tiers. tiers ++ tiers_at n x) old_is ∙ ap (λ k. tiers_from 0 (take n live) ++ tiers_at k x) e
    ∙ sym (tiers_from-push 0 (take n live) x)
    ∙ ap (tiers_from 0) (sym (take_more live n x lt ∙ ap (λ y. take n live ++ y ∷ []) (sym is)))
