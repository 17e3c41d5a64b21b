use Rattle.std.proofs.Common.{◌≡◌}
use Rattle.toml.specs.View.{members_view}
use Rattle.sr_policy.specs.File.{are_soft, limits_in}
use Rattle.sr_policy.proofs.range.are_up_to_limits.Given as goal

abbrev pub invariant-loop-consumer : goal.invariant-loop-consumer
invariant-loop-consumer l =
    are_soft (limits_in (members_view l.file.entries)) (members_view l.consumer-iterator)
    ≡ are_soft (limits_in (members_view l.file.entries)) (members_view l.soft.entries)
