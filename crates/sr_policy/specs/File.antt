-- What a policy file means, as a function of its text: the rules that it gives, or why it gives none.
-- Source: docs/POLICY.md; TOML 1.0.

use Rattle.std.specs.Prelude.{ℕ, ℤ, pos, negsuc, Bool, true, false, ◌&&◌, ◌||◌, not, if◌then◌else◌, nat_le, nat_eq}
use Rattle.std.specs.Prelude.{List, [], ◌∷◌, length, map, codes}
use Rattle.std.specs.Prelude.{Option, Some, None, is_some, option_and_then, unwrap_or, Result, Ok, Err}
use Rattle.std.specs.List.{list_all}
use Rattle.std.specs.Option.{option_map_or}
use Rattle.std.specs.Cmp.Lexicographic.{pointwise}
use Rattle.toml.specs.Data.{Data, Members, no_members, member, get_member, as_integer, as_str, as_table}
use Rattle.toml.specs.Parse.{parse_document}
use Rattle.sr_policy.specs.declared.file.PolicyFault.{PolicyFault}
use Rattle.sr_policy.specs.declared.file.PolicyFault.TheVariants as fault
use Rattle.sr_policy.specs.Bounds.{most_consumers, most_classes, most_fee, most_limit, most_rate}
use Rattle.sr_policy.specs.Rules.{Text, Rules}

-- the keys of a table, each with its value
abbrev pub pairs_of : Members → List (Text × Data)
pairs_of no_members = []
pairs_of (member key value rest) = (key, value) ∷ pairs_of rest

-- the table at a key; one without pairs if the key is missing or holds something else
abbrev pub table_at : Text → Members → Members
table_at key file = unwrap_or (option_and_then as_table (get_member key file)) no_members

abbrev pub limits_in : Members → Members
limits_in file = table_at (codes "limits") file

abbrev pub rates_in : Members → Members
rates_in file = table_at (codes "rates") file

abbrev pub soft_in : Members → Members
soft_in file = table_at (codes "soft") file

abbrev pub fees_in : Members → Members
fees_in file = table_at (codes "fees") file

-- an integer that is not below 0
abbrev pub natural_from : ℤ → Option ℕ
natural_from (pos n) = Some n
natural_from (negsuc n) = None

abbrev pub natural_of : Data → Option ℕ
natural_of value = option_and_then natural_from (as_integer value)

-- an integer from least to most
abbrev pub is_between : ℕ → ℕ → Data → Bool
is_between least most value = option_map_or (λ n. nat_le least n && nat_le n most) (natural_of value) false

-- Shape: the keys that there may be, and the kind of each value

-- a policy file may have these keys
abbrev pub is_known_key : Text → Bool
is_known_key key =
    pointwise nat_eq key (codes "version") || pointwise nat_eq key (codes "class_field")
    || pointwise nat_eq key (codes "limits") || pointwise nat_eq key (codes "rates")
    || pointwise nat_eq key (codes "soft") || pointwise nat_eq key (codes "fees")

abbrev pub is_integer : Data → Bool
is_integer value = is_some (as_integer value)

abbrev pub is_text : Data → Bool
is_text value = is_some (as_str value)

abbrev pub are_integers : Members → Bool
are_integers numbers = list_all (λ pair. is_integer pair.1) (pairs_of numbers)

-- a table of integers
abbrev pub is_number_table : Data → Bool
is_number_table value = option_map_or are_integers (as_table value) false

abbrev pub are_number_tables : Members → Bool
are_number_tables tables = list_all (λ pair. is_number_table pair.1) (pairs_of tables)

-- a table of tables of integers
abbrev pub is_rate_table : Data → Bool
is_rate_table value = option_map_or are_number_tables (as_table value) false

-- the value at the key is of this kind, or the key is missing
abbrev pub is_kind_at : Text → (Data → Bool) → Members → Bool
is_kind_at key is_kind file = option_map_or is_kind (get_member key file) true

-- each consumer that has a rate has a limit
abbrev pub are_limited : Members → Members → Bool
are_limited limits rates = list_all (λ pair. is_some (get_member pair.0 limits)) (pairs_of rates)

abbrev pub are_all_limited : Members → Members → Bool
are_all_limited limits classes =
    list_all (λ pair. option_map_or (are_limited limits) (as_table pair.1) true) (pairs_of classes)

-- each value is of its kind
abbrev pub has_kinds : Members → Bool
has_kinds file =
    is_kind_at (codes "version") is_integer file
    && is_kind_at (codes "class_field") is_text file
    && is_kind_at (codes "limits") is_number_table file
    && is_kind_at (codes "rates") is_rate_table file
    && is_kind_at (codes "soft") is_number_table file
    && is_kind_at (codes "fees") is_number_table file

-- the file says that it is of version 2
abbrev pub is_of_version_2 : Members → Bool
is_of_version_2 file = option_map_or (is_between 2 2) (get_member (codes "version") file) false

-- neither soft limits nor fees
abbrev pub has_no_tiers : Members → Bool
has_no_tiers file =
    not (is_some (get_member (codes "soft") file)) && not (is_some (get_member (codes "fees") file))

-- soft limits and fees stand in a file of version 2 alone, for the same consumers, each of which has a limit
abbrev pub are_tiers : Members → Bool
are_tiers file =
    (is_of_version_2 file || has_no_tiers file)
    && are_limited (fees_in file) (soft_in file)
    && are_limited (soft_in file) (fees_in file)
    && are_limited (limits_in file) (soft_in file)

-- the file has the shape of a policy: no other keys, each value of its kind, no rate for a consumer without a limit,
-- and soft limits and fees in a file of version 2 alone, for the same consumers
abbrev pub has_shape : Members → Bool
has_shape file =
    list_all (λ pair. is_known_key pair.0) (pairs_of file)
    && has_kinds file
    && are_all_limited (limits_in file) (rates_in file)
    && are_tiers file

-- Range: how many there may be, and how great each number

-- each number of the table is from 0 to most
abbrev pub are_up_to : ℕ → Members → Bool
are_up_to most numbers = list_all (λ pair. is_between 0 most pair.1) (pairs_of numbers)

abbrev pub are_all_up_to : ℕ → Members → Bool
are_all_up_to most tables = list_all (λ pair. option_map_or (are_up_to most) (as_table pair.1) true) (pairs_of tables)

-- the limit of a consumer; 0 if it has none
abbrev pub limit_in : Members → Text → ℕ
limit_in limits consumer = unwrap_or (option_and_then natural_of (get_member consumer limits)) 0

-- each soft limit is from 0 to the consumer's limit
abbrev pub are_soft : Members → Members → Bool
are_soft limits soft = list_all (λ pair. is_between 0 (limit_in limits pair.0) pair.1) (pairs_of soft)

-- the file is in range: version 1 or 2, if it says one; at most 64 consumers and 1,024 classes; limits from 0 to
-- 1,000,000,000, rates from 0 to 2 ^ 20, soft limits from 0 to the limit, and fees from 0 to 2 ^ 40
abbrev pub is_in_range : Members → Bool
is_in_range file =
    is_kind_at (codes "version") (is_between 1 2) file
    && nat_le (length (pairs_of (limits_in file))) most_consumers
    && nat_le (length (pairs_of (rates_in file))) most_classes
    && are_up_to most_limit (limits_in file)
    && are_all_up_to most_rate (rates_in file)
    && are_soft (limits_in file) (soft_in file)
    && are_up_to most_fee (fees_in file)

-- Meaning: the rules of a file that has the shape and is in range

-- the numbers of a table, by key
abbrev pub numbers_of : Members → List (Text × ℕ)
numbers_of numbers = map (λ pair. (pair.0, unwrap_or (natural_of pair.1) 0)) (pairs_of numbers)

-- the rates of each class
abbrev pub rates_of : Members → List (Text × List (Text × ℕ))
rates_of classes = map (λ pair. (pair.0, numbers_of (unwrap_or (as_table pair.1) no_members))) (pairs_of classes)

abbrev pub rules_of : Members → Rules
rules_of file = record {
  class_field = option_and_then as_str (get_member (codes "class_field") file);
  limits = numbers_of (limits_in file);
  rates = rates_of (rates_in file);
  soft = numbers_of (soft_in file);
  fees = numbers_of (fees_in file);
}

-- the rules of a TOML document, or the first fault that holds: its shape is judged before the range of any number
abbrev pub meaning_of_file : Members → Result Rules PolicyFault
meaning_of_file file =
    if not (has_shape file) then Err fault.Shape
    else if not (is_in_range file) then Err fault.Range
    else Ok (rules_of file)

abbrev pub meaning_of_document : Option Members → Result Rules PolicyFault
meaning_of_document None = Err fault.Toml
meaning_of_document (Some file) = meaning_of_file file

-- what a text means as a policy
abbrev pub meaning_of : List ℕ → Result Rules PolicyFault
meaning_of text = meaning_of_document (parse_document text)
