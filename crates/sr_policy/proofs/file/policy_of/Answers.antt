use Rattle.std.proofs.Common.{◌≡◌, rules}
use Rattle.toml.specs.View.{table_view}
use Rattle.sr_policy.specs.File.{rules_of as rules_of_file}
use Rattle.sr_policy.specs.Rules.{Rules}
use Rattle.sr_policy.proofs.PolicyLemmas.{in_range_is_policy}
use Rattle.sr_policy.proofs.file.policy_of.Goals as goal

pub of-requires : goal.of-requires
of-requires c =
    let rules_read : Rules = record {
      class_field = c.match-text_at.class_field;
      limits = c.in_ok-numbers_at.field-0;
      rates = c.in_ok-rates_at.field-0.items;
      soft = c.in_ok-numbers_at-2.field-0;
      fees = c.in_ok-numbers_at-3.field-0;
    } in
    let meant : rules_read ≡ rules_of_file (table_view c.args.file.now) = search rules in
    in_range_is_policy (table_view c.args.file.now) rules_read meant c.requires c.in_ok-numbers_at.ensures.order
    c.in_ok-rates_at.ensures.order
