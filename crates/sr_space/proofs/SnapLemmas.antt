-- What is gathered for a snapshot is one, if not too many entries are stranded.
use Rattle.std.proofs.Common.{◌≡◌, ℕ, ◌+◌, ◌≤◌, ◌^◌, Bool, true, false, cond, not, ◌||◌, List, [], ◌∷◌, ◌++◌, length, map, filter, Option, Some, None, is_some, option_map, option_and_then, IfSome, All, refl, ap, sym, ◌∙◌, nat_eq, nat_lt, arith, length-append}
use Rattle.std.specs.Cmp.Lexicographic.{pointwise}
use Rattle.std.specs.List.{flat_map}
use Rattle.std.proofs.lemmas.List.{length-map}
use Rattle.std.proofs.lemmas.List.Elements.{All-append, All-cons, All-head, All-map, All-nil, All-tail, filter_agree, filter_passes}
use Rattle.std.proofs.lemmas.List.Filters.{length-filter_both}
use Rattle.sr_bytes.specs.{AreInOrder, ComesBefore}
use Rattle.sr_ids.specs.declared.id.Id.{Id}
use Rattle.sr_ids.specs.{IsBelow}
use Rattle.sr_entries.specs.declared.entry.Entry.{Entry}
use Rattle.sr_ids.specs.{is_same_id}
use Rattle.sr_entries.specs.{entry_with, has_id}
use Rattle.sr_pending.specs.declared.nack.Nack.{Nack}
use Rattle.sr_pending.specs.{AreRising, owned_by}
use Rattle.sr_group.proofs.NameLemmas.{is_same_name-refl, is_same_name-true}
use Rattle.sr_policy.specs.Bounds.{most_stranded}
use Rattle.sr_policy.specs.declared.live.Live.{Live}
use Rattle.sr_policy.specs.declared.stranded.Stranded.{Stranded}
use Rattle.sr_policy.specs.Policy.{IsPolicy}
use Rattle.sr_policy.specs.{Text, consumers_of, live_of, SnapshotState, is_among}
use Rattle.sr_policy.specs.Rules.{Rules, class_of_value, classed_by, limit_of, other_class, rate_of, tier_of, value_at, weight_of}
use Rattle.sr_policy.proofs.PolicyLemmas.{live_of-tier}
use Rattle.sr_policy.specs.Snapshot.{AreIdsInOrder, AreNamesInOrder, AreOwnersDead, AreRates, IsSnapshot, IsTier, IsWeight, IsWithinBounds}
use Rattle.sr_space.specs.declared.snap.SnapFault.{SnapFault}
use Rattle.sr_space.specs.declared.snap.SnapFault.TheVariants as faults
use Rattle.sr_space.specs.Snap.{IsSnapFault, gone_in, if_few, in_order, listed, live_in, of_dead, rates_in, shown_with, stranded_as, stranded_in}
use Rattle.sr_space.specs.steps.Snapping.{left_in}
use Rattle.sr_space.proofs.RisingLemmas.{AtMostOne, Rises, Rises-filter, Rises-flat_map, Rises-map, in_order-rising, length-flat_map_one}
use Rattle.sr_space.proofs.OwnLemmas.{NacksRise-rising}
use Rattle.sr_space.proofs.NameOrderLemmas.{AreAmong, AreAmong-in_order, NamesRise-in_order, is_among-in_order, length-among, names_rise}

-- ---- the same are dead in byte order

pub of_dead-in_order : (dead : List Text) (nacks : List Nack) → of_dead (in_order dead) nacks ≡ of_dead dead nacks
of_dead-in_order dead nacks =
    filter_agree (λ (nack : Nack). is_among (in_order dead) nack.owner) (λ (nack : Nack). is_among dead nack.owner) (λ nack. is_among-in_order dead nack.owner) nacks

-- ---- as many are stranded as are left

length-stranded_as : (rules : Rules) (nack : Nack) (entries : List Entry) → length (stranded_as rules nack (entry_with nack.id entries)) ≡ cond (has_id nack.id entries) 1 0
length-stranded_as rules nack [] = refl
length-stranded_as rules nack (x ∷ xs) = by (length-stranded_as rules nack xs) (is_same_id x.id nack.id)
  where
    by : length (stranded_as rules nack (entry_with nack.id xs)) ≡ cond (has_id nack.id xs) 1 0 → (test : Bool)
        → length (stranded_as rules nack (cond test (Some x) (entry_with nack.id xs))) ≡ cond (test || has_id nack.id xs) 1 0
    by rest true = refl
    by rest false = rest

length-stranded : (rules : Rules) (entries : List Entry) (nacks : List Nack)
    → length (flat_map (λ (nack : Nack). stranded_as rules nack (entry_with nack.id entries)) nacks) ≡ length (filter (λ (nack : Nack). has_id nack.id entries) nacks)
length-stranded rules entries [] = refl
length-stranded rules entries (x ∷ xs) =
    length-append (stranded_as rules x (entry_with x.id entries)) (flat_map (λ (nack : Nack). stranded_as rules nack (entry_with nack.id entries)) xs)
    ∙ by (length-stranded rules entries xs) (length-stranded_as rules x entries) (has_id x.id entries) refl
  where
    by : length (flat_map (λ (nack : Nack). stranded_as rules nack (entry_with nack.id entries)) xs) ≡ length (filter (λ (nack : Nack). has_id nack.id entries) xs)
        → length (stranded_as rules x (entry_with x.id entries)) ≡ cond (has_id x.id entries) 1 0 → (test : Bool) → has_id x.id entries ≡ test
        → length (stranded_as rules x (entry_with x.id entries)) + length (flat_map (λ (nack : Nack). stranded_as rules nack (entry_with nack.id entries)) xs)
        ≡ length (cond test (x ∷ filter (λ (nack : Nack). has_id nack.id entries) xs) (filter (λ (nack : Nack). has_id nack.id entries) xs))
    by rest one true e = let here : length (stranded_as rules x (entry_with x.id entries)) ≡ 1 = rw e at one in omega arith
    by rest one false e = let here : length (stranded_as rules x (entry_with x.id entries)) ≡ 0 = rw e at one in omega arith

pub length-stranded_in : (rules : Rules) (dead : List Text) (entries : List Entry) (nacks : List Nack) → length (stranded_in rules dead entries nacks) ≡ length (left_in dead entries nacks)
length-stranded_in rules dead entries nacks = length-stranded rules entries (of_dead dead nacks)

-- in byte order or not
left_in-in_order : (dead : List Text) (entries : List Entry) (nacks : List Nack) → left_in (in_order dead) entries nacks ≡ left_in dead entries nacks
left_in-in_order dead entries nacks = ap (λ (l : List Nack). filter (λ (nack : Nack). has_id nack.id entries) l) (of_dead-in_order dead nacks)

-- ---- ids rise

Rises-dead : (dead : List Text) (nacks : List Nack) → AreRising nacks → Rises IsBelow (λ (nack : Nack). nack.id) (of_dead dead nacks)
Rises-dead dead nacks rising =
    Rises-filter IsBelow (λ (nack : Nack). nack.id) (λ nack. is_among dead nack.owner) nacks (NacksRise-rising nacks rising)

one_stranded : (rules : Rules) (nack : Nack) (found : Option Entry) → AtMostOne (λ (entry : Stranded). entry.id ≡ nack.id) (stranded_as rules nack found)
one_stranded rules nack None = tt
one_stranded rules nack (Some entry) = refl

ids_in_order : (rules : Rules) (key group : Text) (dead : List Text) (entries : List Entry) (nacks : List Nack) → AreRising nacks → AreIdsInOrder (shown_with rules key group dead entries nacks)
ids_in_order rules key group dead entries nacks rising = record {
  stranded = in_order-rising IsBelow (λ (entry : Stranded). entry.id) (stranded_in rules dead entries nacks)
      (Rises-flat_map IsBelow (λ (nack : Nack). nack.id) (λ (entry : Stranded). entry.id) (λ nack. stranded_as rules nack (entry_with nack.id entries))
      (λ nack. one_stranded rules nack (entry_with nack.id entries)) (of_dead dead nacks) (Rises-dead dead nacks rising));
  gone = in_order-rising IsBelow (λ (entry : Id × Text). entry.0) (gone_in dead entries nacks)
      (Rises-map IsBelow (λ (entry : Id × Text). entry.0) (λ (nack : Nack). (nack.id, nack.owner)) (filter (λ nack. not (has_id nack.id entries)) (of_dead dead nacks))
      (Rises-filter IsBelow (λ (nack : Nack). nack.id) (λ nack. not (has_id nack.id entries)) (of_dead dead nacks) (Rises-dead dead nacks rising)));
}

-- ---- names rise

one_live : (rules : Rules) (name : Text) (pending : ℕ) → AtMostOne (λ (consumer : Live). consumer.name ≡ name) (listed (live_of rules name pending))
one_live rules name pending = by (limit_of rules name)
  where
    by : (limit : Option ℕ) → AtMostOne (λ (consumer : Live). consumer.name ≡ name) (listed (option_map (λ l. record { name = name; limit = l; pending = pending; tier = tier_of rules name }) limit))
    by None = tt
    by (Some limit) = refl

Rises-live : (rules : Rules) (dead : List Text) (nacks : List Nack) → IsPolicy rules → Rises ComesBefore (λ (consumer : Live). consumer.name) (live_in rules dead nacks)
Rises-live rules dead nacks policy =
    Rises-flat_map ComesBefore (λ (name : Text). name) (λ (consumer : Live). consumer.name) (λ name. listed (live_of rules name (length (owned_by name nacks))))
    (λ name. one_live rules name (length (owned_by name nacks))) (filter (λ name. not (is_among dead name)) (consumers_of rules))
    (Rises-filter ComesBefore (λ (name : Text). name) (λ name. not (is_among dead name)) (consumers_of rules) (names_rise (consumers_of rules) policy.in_order))

Rises-rates : (rules : Rules) (live : List Live) (stranded : List Stranded) → Rises ComesBefore (λ (class : Text × List (Option ℕ)). class.0) (rates_in rules live stranded)
Rises-rates rules live stranded =
    Rises-map ComesBefore (λ (class : Text × List (Option ℕ)). class.0) (λ class. (class, map (λ consumer. rate_of rules class consumer.name) live))
    (in_order (map (λ entry. entry.class) stranded)) (NamesRise-in_order (map (λ entry. entry.class) stranded))

names_rising : (rules : Rules) (key group : Text) (dead : List Text) (entries : List Entry) (nacks : List Nack) → IsPolicy rules → AreInOrder ComesBefore dead → AreNamesInOrder (shown_with rules key group dead entries nacks)
names_rising rules key group dead entries nacks policy order = record {
  dead = order;
  live = in_order-rising ComesBefore (λ (consumer : Live). consumer.name) (live_in rules dead nacks) (Rises-live rules dead nacks policy);
  rates = in_order-rising ComesBefore (λ (class : Text × List (Option ℕ)). class.0) _ (Rises-rates rules (live_in rules dead nacks) (stranded_in rules dead entries nacks));
}

-- ---- owners are dead

all_of : {X Y : Type 0} (P : Y → Type 0) (Q : X → Type 0) (f : X → List Y) (each : (x : X) → Q x → All P (f x)) (xs : List X) → All Q xs → All P (flat_map f xs)
all_of P Q f each [] all = All-nil P
all_of P Q f each (x ∷ xs) all = All-append P (f x) (flat_map f xs) (each x (All-head Q x xs all)) (all_of P Q f each xs (All-tail Q x xs all))

stranded_owner : (rules : Rules) (dead : List Text) (nack : Nack) (found : Option Entry) → is_among dead nack.owner ≡ true → All (λ (entry : Stranded). is_among dead entry.owner ≡ true) (stranded_as rules nack found)
stranded_owner rules dead nack None is = All-nil (λ (entry : Stranded). is_among dead entry.owner ≡ true)
stranded_owner rules dead nack (Some entry) is = All-cons (λ (e : Stranded). is_among dead e.owner ≡ true) _ [] is (All-nil (λ (e : Stranded). is_among dead e.owner ≡ true))

filter_keeps : {X : Type 0} (P : X → Type 0) (p : X → Bool) (xs : List X) → All P xs → All P (filter p xs)
filter_keeps P p [] all = All-nil P
filter_keeps P p (x ∷ xs) all = by (filter_keeps P p xs (All-tail P x xs all)) (p x)
  where
    by : All P (filter p xs) → (test : Bool) → All P (cond test (x ∷ filter p xs) (filter p xs))
    by rest true = All-cons P x (filter p xs) (All-head P x xs all) rest
    by rest false = rest

owners_dead : (rules : Rules) (key group : Text) (dead : List Text) (entries : List Entry) (nacks : List Nack) → AreOwnersDead (shown_with rules key group dead entries nacks)
owners_dead rules key group dead entries nacks =
    let all : All (λ (nack : Nack). is_among dead nack.owner ≡ true) (of_dead dead nacks) = filter_passes (λ (nack : Nack). is_among dead nack.owner) nacks in
    record {
      stranded = all_of (λ (entry : Stranded). is_among dead entry.owner ≡ true) (λ (nack : Nack). is_among dead nack.owner ≡ true)
          (λ nack. stranded_as rules nack (entry_with nack.id entries)) (λ nack is. stranded_owner rules dead nack (entry_with nack.id entries) is) (of_dead dead nacks) all;
      gone = All-map (λ (entry : Id × Text). is_among dead entry.1 ≡ true) (λ (nack : Nack). (nack.id, nack.owner)) (filter (λ nack. not (has_id nack.id entries)) (of_dead dead nacks))
          (filter_keeps (λ (nack : Nack). is_among dead nack.owner ≡ true) (λ nack. not (has_id nack.id entries)) (of_dead dead nacks) all);
    }

-- ---- bounds

weight_within : (fields : List (Text × Text)) → IsWeight (weight_of fields)
weight_within fields = record { some = omega arith; small = omega arith }

stranded_weight : (rules : Rules) (nack : Nack) (found : Option Entry) → All (λ (entry : Stranded). IsWeight entry.weight) (stranded_as rules nack found)
stranded_weight rules nack None = All-nil (λ (entry : Stranded). IsWeight entry.weight)
stranded_weight rules nack (Some entry) = All-cons (λ (e : Stranded). IsWeight e.weight) _ [] (weight_within entry.fields) (All-nil (λ (e : Stranded). IsWeight e.weight))

all_anyway : {X Y : Type 0} (P : Y → Type 0) (f : X → List Y) (each : (x : X) → All P (f x)) (xs : List X) → All P (flat_map f xs)
all_anyway P f each [] = All-nil P
all_anyway P f each (x ∷ xs) = All-append P (f x) (flat_map f xs) (each x) (all_anyway P f each xs)

-- what is found has what all have
value_at-all : {V : Type 0} (P : V → Type 0) (name : Text) (pairs : List (Text × V)) → All (λ pair. P pair.1) pairs → IfSome (value_at name pairs) P
value_at-all P name [] all = tt
value_at-all P name (x ∷ xs) all = by (value_at-all P name xs (All-tail (λ pair. P pair.1) x xs all)) (pointwise nat_eq name x.0)
  where
    by : IfSome (value_at name xs) P → (test : Bool) → IfSome (cond test (Some x.1) (value_at name xs)) P
    by rest true = All-head (λ pair. P pair.1) x xs all
    by rest false = rest

live_limit : (rules : Rules) (name : Text) (pending : ℕ) → IsPolicy rules → All (λ (consumer : Live). consumer.limit ≤ 1000000000) (listed (live_of rules name pending))
live_limit rules name pending policy = by (limit_of rules name) (value_at-all (λ limit. limit ≤ 1000000000) name rules.limits policy.limits)
  where
    by : (limit : Option ℕ) → IfSome limit (λ n. n ≤ 1000000000) → All (λ (consumer : Live). consumer.limit ≤ 1000000000) (listed (option_map (λ l. record { name = name; limit = l; pending = pending; tier = tier_of rules name }) limit))
    by None small = All-nil (λ (consumer : Live). consumer.limit ≤ 1000000000)
    by (Some limit) small = All-cons (λ (consumer : Live). consumer.limit ≤ 1000000000) _ [] small (All-nil (λ (consumer : Live). consumer.limit ≤ 1000000000))

-- each live consumer's soft limit is at most its limit, and its fee at most the greatest
abbrev HasTier : Live → Type 0
HasTier consumer = IfSome consumer.tier (IsTier consumer.limit)

live_tier : (rules : Rules) (name : Text) (pending : ℕ) → IsPolicy rules → All HasTier (listed (live_of rules name pending))
live_tier rules name pending policy = by (live_of rules name pending) (live_of-tier rules name pending policy)
  where
    by : (live : Option Live) → IfSome live HasTier → All HasTier (listed live)
    by None has = All-nil HasTier
    by (Some live) has = All-cons HasTier live [] has (All-nil HasTier)

rate_small : (rules : Rules) (class consumer : Text) → IsPolicy rules → IfSome (rate_of rules class consumer) (λ n. n ≤ 2 ^ 20)
rate_small rules class consumer policy =
    by (value_at class rules.rates) (value_at-all (λ (rates : List (Text × ℕ)). All (λ rate. rate.1 ≤ 2 ^ 20) rates) class rules.rates policy.rates)
  where
    by : (rates : Option (List (Text × ℕ))) → IfSome rates (λ l. All (λ rate. rate.1 ≤ 2 ^ 20) l) → IfSome (option_and_then (value_at consumer) rates) (λ n. n ≤ 2 ^ 20)
    by None all = tt
    by (Some rates) all = value_at-all (λ n. n ≤ 2 ^ 20) consumer rates all

are_rates : (rules : Rules) (live : List Live) (class : Text) → IsPolicy rules → AreRates (length live) (map (λ (consumer : Live). rate_of rules class consumer.name) live)
are_rates rules live class policy = record {
  places = length-map live (λ (consumer : Live). rate_of rules class consumer.name);
  small = All-map (λ rate. IfSome rate (λ n. n ≤ 2 ^ 20)) (λ (consumer : Live). rate_of rules class consumer.name) live (λ k d lt. rate_small rules class _ policy);
}

-- ---- few classes

-- the names of the tables of rates, and `*`
abbrev classes_for : Rules → List Text
classes_for rules = other_class ∷ map (λ class. class.0) rules.rates

or_left : (a b : Bool) → a ≡ true → (a || b) ≡ true
or_left true b h = refl
or_left false b h = absurd cc

or_right : (a b : Bool) → b ≡ true → (a || b) ≡ true
or_right true b h = refl
or_right false b h = h

same_either_way : (a b : Text) → pointwise nat_eq a b ≡ true → pointwise nat_eq b a ≡ true
same_either_way a b e =
    let one = is_same_name-true a b e in
    rw one (is_same_name-refl b)

table_among : {V : Type 0} (name : Text) (pairs : List (Text × V)) → is_some (value_at name pairs) ≡ true → is_among (map (λ pair. pair.0) pairs) name ≡ true
table_among name [] there = absurd cc
table_among name (x ∷ xs) there = by (λ more. table_among name xs more) (pointwise nat_eq name x.0) refl there
  where
    by : (is_some (value_at name xs) ≡ true → is_among (map (λ pair. pair.0) xs) name ≡ true) → (test : Bool) → pointwise nat_eq name x.0 ≡ test
        → is_some (cond test (Some x.1) (value_at name xs)) ≡ true → (pointwise nat_eq x.0 name || is_among (map (λ pair. pair.0) xs) name) ≡ true
    by rest true e here = or_left (pointwise nat_eq x.0 name) (is_among (map (λ pair. pair.0) xs) name) (same_either_way name x.0 e)
    by rest false e here = or_right (pointwise nat_eq x.0 name) (is_among (map (λ pair. pair.0) xs) name) (rest here)

star_among : (rules : Rules) → is_among (classes_for rules) other_class ≡ true
star_among rules = or_left (pointwise nat_eq other_class other_class) (is_among (map (λ class. class.0) rules.rates) other_class) (is_same_name-refl other_class)

class_among : (rules : Rules) (value : Option Text) → is_among (classes_for rules) (class_of_value rules value) ≡ true
class_among rules None = star_among rules
class_among rules (Some value) = by (is_some (value_at value rules.rates)) refl
  where
    by : (test : Bool) → is_some (value_at value rules.rates) ≡ test → is_among (classes_for rules) (cond test value other_class) ≡ true
    by true e = or_right (pointwise nat_eq other_class value) (is_among (map (λ class. class.0) rules.rates) value) (table_among value rules.rates e)
    by false e = star_among rules

classes_among : (rules : Rules) (entries : List Entry) (nacks : List Nack)
    → AreAmong (classes_for rules) (map (λ (entry : Stranded). entry.class) (flat_map (λ (nack : Nack). stranded_as rules nack (entry_with nack.id entries)) nacks))
classes_among rules entries [] = tt
classes_among rules entries (x ∷ xs) =
    by (flat_map (λ (nack : Nack). stranded_as rules nack (entry_with nack.id entries)) xs) (classes_among rules entries xs) (entry_with x.id entries)
  where
    by : (more : List Stranded) → AreAmong (classes_for rules) (map (λ (entry : Stranded). entry.class) more) → (found : Option Entry)
        → AreAmong (classes_for rules) (map (λ (entry : Stranded). entry.class) (stranded_as rules x found ++ more))
    by more rest None = rest
    by more rest (Some entry) = (class_among rules (classed_by rules entry.fields), rest)

few_classes : (rules : Rules) (dead : List Text) (entries : List Entry) (nacks : List Nack) (live : List Live) → IsPolicy rules → length (rates_in rules live (stranded_in rules dead entries nacks)) ≤ 1025
few_classes rules dead entries nacks live policy =
    let stranded = stranded_in rules dead entries nacks in
    let classes = map (λ (entry : Stranded). entry.class) stranded in
    let each : length (rates_in rules live stranded) ≡ length (in_order classes) =
    length-map (in_order classes) (λ (class : Text). (class, map (λ (consumer : Live). rate_of rules class consumer.name) live)) in
    let few : length (in_order classes) ≤ length (classes_for rules) =
    length-among (in_order classes) (classes_for rules) (NamesRise-in_order classes) (AreAmong-in_order (classes_for rules) classes (classes_among rules entries (of_dead dead nacks))) in
    let tables : length (map (λ (class : Text × List (Text × ℕ)). class.0) rules.rates) ≡ length rules.rates = length-map rules.rates (λ (class : Text × List (Text × ℕ)). class.0) in
    omega (arith, policy.few_classes)

pub length-filter-le : {X : Type 0} (p : X → Bool) (xs : List X) → length (filter p xs) ≤ length xs
length-filter-le p xs = omega (arith, length-filter_both p (λ x. not (p x)) (λ x. refl) xs)

few_live : (rules : Rules) (dead : List Text) (nacks : List Nack) → IsPolicy rules → length (live_in rules dead nacks) ≤ 64
few_live rules dead nacks policy =
    let names = filter (λ name. not (is_among dead name)) (consumers_of rules) in
    let one : length (live_in rules dead nacks) ≤ length names = length-flat_map_one ComesBefore (λ (name : Text). name) (λ (consumer : Live). consumer.name) (λ name. listed (live_of rules name (length (owned_by name nacks))))
    (λ name. one_live rules name (length (owned_by name nacks))) names in
    let fewer = length-filter-le (λ name. not (is_among dead name)) (consumers_of rules) in
    let all = length-map rules.limits (λ (limit : Text × ℕ). limit.0) in
    omega (arith, policy.few_consumers)

within_bounds : (rules : Rules) (key group : Text) (dead : List Text) (entries : List Entry) (nacks : List Nack) → IsPolicy rules → length (stranded_in rules dead entries nacks) ≤ 4096
    → IsWithinBounds (shown_with rules key group dead entries nacks)
within_bounds rules key group dead entries nacks policy few =
    let live = live_in rules dead nacks in
    record {
      few_stranded = few;
      few_live = few_live rules dead nacks policy;
      few_classes = few_classes rules dead entries nacks live policy;
      weights = all_anyway (λ (entry : Stranded). IsWeight entry.weight) (λ nack. stranded_as rules nack (entry_with nack.id entries)) (λ nack. stranded_weight rules nack (entry_with nack.id entries)) (of_dead dead nacks);
      limits = all_anyway (λ (consumer : Live). consumer.limit ≤ 1000000000) (λ name. listed (live_of rules name (length (owned_by name nacks))))
          (λ name. live_limit rules name (length (owned_by name nacks)) policy) (filter (λ name. not (is_among dead name)) (consumers_of rules));
      tiers = all_anyway HasTier (λ name. listed (live_of rules name (length (owned_by name nacks))))
          (λ name. live_tier rules name (length (owned_by name nacks)) policy) (filter (λ name. not (is_among dead name)) (consumers_of rules));
      rates = All-map (λ (class : Text × List (Option ℕ)). AreRates (length live) class.1) (λ (class : Text). (class, map (λ (consumer : Live). rate_of rules class consumer.name) live)) _
          (λ k d lt. are_rates rules live _ policy);
    }

pub is_snapshot : (rules : Rules) (key group : Text) (dead : List Text) (entries : List Entry) (nacks : List Nack) → IsPolicy rules → AreRising nacks → AreInOrder ComesBefore dead
    → length (left_in dead entries nacks) ≤ 4096 → IsSnapshot (shown_with rules key group dead entries nacks)
is_snapshot rules key group dead entries nacks policy rising order few = record {
  ids = ids_in_order rules key group dead entries nacks rising;
  names = names_rising rules key group dead entries nacks policy order;
  owners = owners_dead rules key group dead entries nacks;
  bounds = within_bounds rules key group dead entries nacks policy (rw (length-stranded_in rules dead entries nacks) few);
}

-- ---- what is answered

module _ (rules : Rules) (key name : Text) (dead : List Text) (entries : List Entry) (nacks : List Nack) where
  abbrev shown : SnapshotState
  shown = shown_with rules key name (in_order dead) entries nacks

  -- as many are stranded as are left, as a test
  same_test : (test : Bool) → test ≡ nat_lt most_stranded (length (left_in (in_order dead) entries nacks)) → nat_lt most_stranded (length shown.stranded) ≡ test
  same_test test is = ap (λ (n : ℕ). nat_lt most_stranded n) (length-stranded_in rules (in_order dead) entries nacks) ∙ sym is

  pub if_few-many : (test : Bool) → test ≡ nat_lt most_stranded (length (left_in (in_order dead) entries nacks)) → test ≡ true → IsSnapFault (if_few shown) faults.TooMany
  if_few-many test is many = rw (same_test test is ∙ many) refl

  pub if_few-memory : (test : Bool) → test ≡ nat_lt most_stranded (length (left_in (in_order dead) entries nacks)) → test ≡ false → IsSnapFault (if_few shown) faults.Memory
  if_few-memory test is few = rw (same_test test is ∙ few) refl

  -- memory was refused before it was known whether there are too many
  pub if_few-refused : (fault : SnapFault) → fault ≡ cond (nat_lt most_stranded (length (left_in dead entries nacks))) faults.TooMany faults.Memory → IsSnapFault (if_few shown) fault
  if_few-refused fault is =
      by (nat_lt most_stranded (length (left_in dead entries nacks))) is
      (same_test _ (ap (λ (l : List Nack). nat_lt most_stranded (length l)) (sym (left_in-in_order dead entries nacks))))
    where
      by : (test : Bool) → fault ≡ cond test faults.TooMany faults.Memory → nat_lt most_stranded (length shown.stranded) ≡ test → IsSnapFault (if_few shown) fault
      by true told many = rw many told
      by false told few = rw few told

-- parts that were gathered one after another
pub gathered : (rules : Rules) (key group : Text) (dead : List Text) (entries : List Entry) (nacks : List Nack) (k g : Text) (stranded : List Stranded) (gone : List (Id × Text)) (live : List Live) (rates : List (Text × List (Option ℕ)))
    → k ≡ key → g ≡ group → stranded ≡ stranded_in rules dead entries nacks → gone ≡ gone_in dead entries nacks → live ≡ live_in rules dead nacks → rates ≡ rates_in rules live stranded
    → record { key = k; group = g; dead = dead; stranded = stranded; gone = gone; live = live; rates = rates } ≡ shown_with rules key group dead entries nacks
gathered rules key group dead entries nacks k g stranded gone live rates is_key is_group is_stranded is_gone is_live is_rates =
    let all_rates : rates ≡ rates_in rules (live_in rules dead nacks) (stranded_in rules dead entries nacks) =
    is_rates ∙ ap (λ (l : List Live). rates_in rules l stranded) is_live ∙ ap (λ (s : List Stranded). rates_in rules (live_in rules dead nacks) s) is_stranded in
    cc
