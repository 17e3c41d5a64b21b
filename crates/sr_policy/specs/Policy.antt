-- What holds of every policy: its consumers and its classes are in order, no list is too long, no number too great, and
-- no soft limit above its limit.
-- Source: docs/POLICY.md.

use Rattle.std.specs.Prelude.{◌≤◌, All, IfSome, length, map}
use Rattle.sr_bytes.specs.{AreInOrder, ComesBefore}
use Rattle.sr_policy.specs.Bounds.{most_classes, most_consumers, most_fee, most_limit, most_rate}
use Rattle.sr_policy.specs.Rules.{Rules, Text, limit_of, value_at}

-- no consumer's soft limit is above its limit
abbrev pub AreSoft : Rules → Type 0
AreSoft rules =
    (consumer : Text)
    → IfSome (value_at consumer rules.soft) (λ soft. IfSome (limit_of rules consumer) (λ limit. soft ≤ limit))

pub record IsPolicy (rules : Rules) : Type 0 where
  pub in_order : AreInOrder ComesBefore (map (λ limit. limit.0) rules.limits)
  pub classes : AreInOrder ComesBefore (map (λ class. class.0) rules.rates)
  pub few_consumers : length rules.limits ≤ most_consumers
  pub few_classes : length rules.rates ≤ most_classes
  pub limits : All (λ limit. limit.1 ≤ most_limit) rules.limits
  pub rates : All (λ class. All (λ rate. rate.1 ≤ most_rate) class.1) rules.rates
  pub soft : AreSoft rules
  pub fees : All (λ fee. fee.1 ≤ most_fee) rules.fees
