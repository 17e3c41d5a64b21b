-- The rules of a file in range are those of a policy.
use Rattle.std.proofs.Common.{◌≡◌, ℕ, ◌≤◌, Bool, true, false, ◌&&◌, cond, List, [], ◌∷◌, map, All, Option, Some, None}
use Rattle.std.proofs.Common.{IfSome, option_map, option_and_then, unwrap_or, Less, Equal, Greater, Ordering, refl, ap}
use Rattle.std.proofs.Common.{◌∙◌, subst, sym, nat_cmp, nat_eq, nat_le, arith}
use Rattle.std.proofs.lemmas.Slice.Eq.{bytes_eq-Decides}
use Rattle.std.specs.Cmp.Lexicographic.{pointwise, slice_cmp, texts_ties}
use Rattle.std.specs.Ordering.{is_eq, match_ordering}
use Rattle.std.proofs.lemmas.Bool.{and_parts, leb-true}
use Rattle.std.proofs.lemmas.List.{length-map}
use Rattle.std.proofs.lemmas.List.Elements.{All-head, All-map, All-nil, All-tail, All-weaker}
use Rattle.std.proofs.lemmas.List.Sums.{AllPass-from_list_all}
use Rattle.std.specs.List.{list_all}
use Rattle.std.specs.Option.{option_map_or}
use Rattle.toml.specs.Data.{Data, Members, no_members, member, get_member, as_table}
use Rattle.sr_bytes.specs.{AreInOrder, ComesBefore}
use Rattle.sr_policy.specs.Bounds.{most_fee, most_limit, most_rate}
use Rattle.sr_policy.specs.File.{are_all_up_to, are_soft, are_up_to, fees_in, is_between, is_in_range, limit_in}
use Rattle.sr_policy.specs.File.{limits_in, natural_of, numbers_of, pairs_of, rates_in, rates_of, rules_of, soft_in}
use Rattle.sr_policy.specs.Policy.{IsPolicy}
use Rattle.sr_policy.specs.declared.live.Live.{Live}
use Rattle.sr_policy.specs.Rules.{Rules, Text, limit_of, live_of, value_at}
use Rattle.sr_policy.specs.Snapshot.{IsTier}

-- what passes a test at each element has what the test shows
all_shown : {X : Type 0} (p : X → Bool) (P : X → Type 0) (xs : List X) → ((x : X) → p x ≡ true → P x)
    → list_all p xs ≡ true → All P xs
all_shown p P xs shows h = All-weaker (λ x. p x ≡ true) P shows xs (AllPass-from_list_all p xs h)

natural_small : (most : ℕ) (natural : Option ℕ) → option_map_or (λ n. nat_le 0 n && nat_le n most) natural false ≡ true
    → unwrap_or natural 0 ≤ most
natural_small most None h = omega arith
natural_small most (Some n) h = leb-true n most (and_parts (nat_le 0 n) (nat_le n most) h).1

-- no number is greater than the most
abbrev AreSmall : ℕ → List (Text × ℕ) → Type 0
AreSmall most numbers = All (λ number. number.1 ≤ most) numbers

numbers_small : (most : ℕ) (numbers : Members) → are_up_to most numbers ≡ true → AreSmall most (numbers_of numbers)
numbers_small most numbers h =
    All-map (λ number. number.1 ≤ most) (λ pair. (pair.0, unwrap_or (natural_of pair.1) 0)) (pairs_of numbers)
    (all_shown (λ pair. is_between 0 most pair.1) (λ pair. unwrap_or (natural_of pair.1) 0 ≤ most) (pairs_of numbers)
    (λ pair. natural_small most (natural_of pair.1)) h)

-- what a class has, whose rates may be missing
abbrev rates_read : Option Members → List (Text × ℕ)
rates_read rates = numbers_of (unwrap_or rates no_members)

class_small : (most : ℕ) (rates : Option Members) → option_map_or (are_up_to most) rates true ≡ true
    → AreSmall most (rates_read rates)
class_small most None h = All-nil (λ rate. rate.1 ≤ most)
class_small most (Some rates) h = numbers_small most rates h

rates_small : (most : ℕ) (classes : Members) → are_all_up_to most classes ≡ true
    → All (λ class. AreSmall most class.1) (rates_of classes)
rates_small most classes h =
    All-map (λ class. AreSmall most class.1) (λ pair. (pair.0, rates_read (as_table pair.1))) (pairs_of classes)
    (all_shown (λ pair. option_map_or (are_up_to most) (as_table pair.1) true)
    (λ pair. AreSmall most (rates_read (as_table pair.1))) (pairs_of classes)
    (λ pair. class_small most (as_table pair.1)) h)

-- what a search by order finds, by a test of the names
found_by : {X : Type 0} (o : Ordering) (test : Bool) (here missing : X) → test ≡ is_eq o
    → match_ordering o missing here missing ≡ cond test here missing
found_by Less test here missing same = rw same refl
found_by Equal test here missing same = rw same refl
found_by Greater test here missing same = rw same refl

-- the number of a value, 0 if it has none
abbrev number_of : Data → ℕ
number_of value = unwrap_or (natural_of value) 0

map_chosen : (test : Bool) (value : Data) (rest : Option Data)
    → cond test (Some (number_of value)) (option_map number_of rest)
    ≡ option_map number_of (cond test (Some value) rest)
map_chosen true value rest = refl
map_chosen false value rest = refl

-- the numbers of a table are found as its values are
pub value_at-numbers_of : (key : Text) (members : Members)
    → value_at key (numbers_of members) ≡ option_map (λ value. unwrap_or (natural_of value) 0) (get_member key members)
value_at-numbers_of key no_members = refl
value_at-numbers_of key (member name value rest) =
    let test = pointwise nat_eq key name in
    ap (λ (o : Option ℕ). cond test (Some (number_of value)) o) (value_at-numbers_of key rest)
    ∙ map_chosen test value (get_member key rest)
    ∙ ap (option_map number_of)
    (sym (found_by (slice_cmp nat_cmp key name) test (Some value) (get_member key rest) (texts_ties key name)))

-- the limit of a consumer, in the file and in the rules
limit_in-limit_of : (limits : Members) (consumer : Text)
    → limit_in limits consumer ≡ unwrap_or (value_at consumer (numbers_of limits)) 0
limit_in-limit_of limits consumer =
    by (get_member consumer limits) ∙ ap (λ (o : Option ℕ). unwrap_or o 0) (sym (value_at-numbers_of consumer limits))
  where
    by : (found : Option Data)
        → unwrap_or (option_and_then natural_of found) 0 ≡ unwrap_or (option_map number_of found) 0
    by None = refl
    by (Some value) = refl

-- the soft limit that is found is one of a pair with the consumer's name
soft_at : (limits soft : Members) (consumer : Text) → are_soft limits soft ≡ true
    → IfSome (get_member consumer soft) (λ value. number_of value ≤ limit_in limits consumer)
soft_at limits no_members consumer h = tt
soft_at limits (member name value rest) consumer h =
    let both = and_parts (is_between 0 (limit_in limits name) value) (are_soft limits rest) h in
    let small : number_of value ≤ limit_in limits name =
    natural_small (limit_in limits name) (natural_of value) both.0 in
    let same : pointwise nat_eq consumer name ≡ true → consumer ≡ name = (bytes_eq-Decides consumer name).0 in
    rw (found_by (slice_cmp nat_cmp consumer name) (pointwise nat_eq consumer name) (Some value)
    (get_member consumer rest) (texts_ties consumer name))
    (by (pointwise nat_eq consumer name) (get_member consumer rest)
    (λ is. subst (λ (n : Text). number_of value ≤ limit_in limits n) (sym (same is)) small)
    (soft_at limits rest consumer both.1))
  where
    by : (test : Bool) (other : Option Data) → (test ≡ true → number_of value ≤ limit_in limits consumer)
        → IfSome other (λ v. number_of v ≤ limit_in limits consumer)
        → IfSome (cond test (Some value) other) (λ v. number_of v ≤ limit_in limits consumer)
    by true other here there = here refl
    by false other here there = there

-- a soft limit of the file is at most the limit of its consumer
soft_small : (limits soft : Members) → are_soft limits soft ≡ true → (consumer : Text)
    → IfSome (value_at consumer (numbers_of soft))
    (λ soft. IfSome (value_at consumer (numbers_of limits)) (λ limit. soft ≤ limit))
soft_small limits soft h consumer =
    rw (value_at-numbers_of consumer soft)
    (by (get_member consumer soft) (value_at consumer (numbers_of limits)) (limit_in limits consumer)
    (limit_in-limit_of limits consumer) (soft_at limits soft consumer h))
  where
    by : (found : Option Data) (limit : Option ℕ) (most : ℕ) → most ≡ unwrap_or limit 0
        → IfSome found (λ value. number_of value ≤ most)
        → IfSome (option_map number_of found) (λ soft. IfSome limit (λ limit. soft ≤ limit))
    by None limit most same h = tt
    by (Some value) None most same h = tt
    by (Some value) (Some limit) most same h = rw same at h

-- the rules of a file in range, with their consumers and their classes in order, are those of a policy
pub in_range_is_policy : (file : Members) (rules : Rules) → rules ≡ rules_of file → is_in_range file ≡ true
    → AreInOrder ComesBefore (map (λ limit. limit.0) rules.limits)
    → AreInOrder ComesBefore (map (λ class. class.0) rules.rates) → IsPolicy rules
in_range_is_policy file rules same in_range in_order classes =
    let with_fees = and_parts _ _ in_range in
    let with_soft = and_parts _ _ with_fees.0 in
    let with_rates = and_parts _ _ with_soft.0 in
    let with_limits = and_parts _ _ with_rates.0 in
    let with_classes = and_parts _ _ with_limits.0 in
    let with_consumers = and_parts _ _ with_classes.0 in
    let AreOrdered : Rules → Type 0 = λ r. AreInOrder ComesBefore (map (λ limit. limit.0) r.limits) in
    let ordered : AreOrdered (rules_of file) = subst AreOrdered same in_order in
    let AreClasses : Rules → Type 0 = λ r. AreInOrder ComesBefore (map (λ class. class.0) r.rates) in
    let classed : AreClasses (rules_of file) = subst AreClasses same classes in
    subst IsPolicy (sym same) (record {
      in_order = ordered;
      classes = classed;
      few_consumers = rw (length-map (pairs_of (limits_in file)) _) (leb-true _ _ with_consumers.1);
      few_classes = rw (length-map (pairs_of (rates_in file)) _) (leb-true _ _ with_classes.1);
      limits = numbers_small most_limit (limits_in file) with_limits.1;
      rates = rates_small most_rate (rates_in file) with_rates.1;
      soft = soft_small (limits_in file) (soft_in file) with_soft.1;
      fees = numbers_small most_fee (fees_in file) with_fees.1;
    })

-- what is found has what all have
found-all : {V : Type 0} (P : V → Type 0) (name : Text) (pairs : List (Text × V)) → All (λ pair. P pair.1) pairs
    → IfSome (value_at name pairs) P
found-all P name [] all = tt
found-all P name (x ∷ xs) all =
    by (pointwise nat_eq name x.0) (All-head (λ pair. P pair.1) x xs all)
    (found-all P name xs (All-tail (λ pair. P pair.1) x xs all))
  where
    by : (test : Bool) → P x.1 → IfSome (value_at name xs) P → IfSome (cond test (Some x.1) (value_at name xs)) P
    by true here there = here
    by false here there = there

-- a consumer's soft limit is at most its limit, and its fee at most the greatest
pub live_of-tier : (rules : Rules) (consumer : Text) (pending : ℕ) → IsPolicy rules
    → IfSome (live_of rules consumer pending) (λ live. IfSome live.tier (IsTier live.limit))
live_of-tier rules consumer pending policy =
    by (limit_of rules consumer) (value_at consumer rules.soft) (value_at consumer rules.fees) (policy.soft consumer)
    (found-all (λ fee. fee ≤ most_fee) consumer rules.fees policy.fees)
  where
    by : (limit soft fee : Option ℕ) → IfSome soft (λ s. IfSome limit (λ l. s ≤ l)) → IfSome fee (λ f. f ≤ most_fee)
        → IfSome {T = Live}
        (option_map
        (λ l. record {
          name = consumer;
          limit = l;
          pending = pending;
          tier = option_and_then (λ s. option_map (λ f. (s, f)) fee) soft;
        }) limit)
        (λ live. IfSome live.tier (IsTier live.limit))
    by None soft fee below small = tt
    by (Some limit) None fee below small = tt
    by (Some limit) (Some soft) None below small = tt
    by (Some limit) (Some soft) (Some fee) below small = record { soft = below; fee = small }
