-- What a policy says: how many entries each consumer may have pending, how many of them without a fee, which consumers
-- may take entries of which class, and at which rate; and the class and the weight of an entry.
-- Source: docs/POLICY.md.

use Rattle.std.specs.Prelude.{ℕ, ◌+◌, min, max, Bool, nat_eq, List, [], length, map, sum_by, codes}
use Rattle.std.specs.Prelude.{Option, Some, None, is_some, option_and_then, option_map, if◌then◌else◌}
use Rattle.std.specs.Cmp.Lexicographic.{pointwise}
use Rattle.std.specs.List.{list_any}
use Rattle.std.specs.Map.{lookup}
use Rattle.sr_policy.specs.Bounds.{most_weight}
use Rattle.sr_policy.specs.declared.live.Live.{Live}

-- names are byte strings of any content
abbrev pub Text : Type 0
Text = List ℕ

-- the field that gives an entry its class, if there is one; the limit of each consumer, in byte order of their names;
-- for each class the rates of the consumers that may take its entries; and the soft limit of some consumers, with the
-- fee for each entry beyond it
pub record Rules : Type 0 where
  pub class_field : Option Text
  pub limits : List (Text × ℕ)
  pub rates : List (Text × List (Text × ℕ))
  pub soft : List (Text × ℕ)
  pub fees : List (Text × ℕ)

-- no consumers, no rates, and one class for all entries
abbrev pub no_rules : Rules
no_rules = record { class_field = None; limits = []; rates = []; soft = []; fees = [] }

-- what the first of the pairs with this name holds
abbrev pub value_at : {V : Type 0} → Text → List (Text × V) → Option V
value_at name pairs = lookup (pointwise nat_eq name) pairs

-- the consumers, in byte order
abbrev pub consumers_of : Rules → List Text
consumers_of rules = map (λ limit. limit.0) rules.limits

-- how many entries the consumer may have pending; None for a consumer that the policy doesn't name
abbrev pub limit_of : Rules → Text → Option ℕ
limit_of rules consumer = value_at consumer rules.limits

-- the soft limit of the consumer and the fee of each entry beyond it; None for a consumer without a soft limit
abbrev pub tier_of : Rules → Text → Option (ℕ × ℕ)
tier_of rules consumer =
    option_and_then (λ soft. option_map (λ fee. (soft, fee)) (value_at consumer rules.fees))
    (value_at consumer rules.soft)

-- some consumer has a soft limit
abbrev pub has_tiers : Rules → Bool
has_tiers rules = list_any (λ consumer. is_some (tier_of rules consumer)) (consumers_of rules)

-- the consumer as a live one, with this many entries pending for it; None for one that the policy doesn't name
abbrev pub live_of : Rules → Text → ℕ → Option Live
live_of rules consumer pending =
    option_map (λ limit. record { name = consumer; limit = limit; pending = pending; tier = tier_of rules consumer })
    (limit_of rules consumer)

-- the cost of an entry of this class for each unit of its weight; None if the consumer may not take it
abbrev pub rate_of : Rules → Text → Text → Option ℕ
rate_of rules class consumer = option_and_then (value_at consumer) (value_at class rules.rates)

-- the class of all entries that no other class takes: `*`
abbrev pub other_class : Text
other_class = codes "*"

-- the value of the first field with the name of the class field, if there are both
abbrev pub classed_by : Rules → List (Text × Text) → Option Text
classed_by rules fields = option_and_then (λ name. value_at name fields) rules.class_field

-- this value, if the policy has a table of rates for it, and else `*`. A table's name is text, so a value that isn't
-- UTF-8 has none
abbrev pub class_of_value : Rules → Option Text → Text
class_of_value rules None = other_class
class_of_value rules (Some value) = if is_some (value_at value rules.rates) then value else other_class

-- the class of an entry with these fields
abbrev pub class_of : Rules → List (Text × Text) → Text
class_of rules fields = class_of_value rules (classed_by rules fields)

-- how many bytes all fields and values have
abbrev pub size_of : List (Text × Text) → ℕ
size_of fields = sum_by (λ field. length field.0 + length field.1) fields

-- the weight of an entry with these fields: its size, but at least 1 and at most 2 ^ 20
abbrev pub weight_of : List (Text × Text) → ℕ
weight_of fields = max 1 (min most_weight (size_of fields))
