use Rattle.std.proofs.Common.{◌≡◌}
use Rattle.toml.specs.View.{members_view}
use Rattle.sr_policy.specs.File.{are_limited, table_at}
use Rattle.sr_policy.proofs.shape.are_keys_at.Given as goal

abbrev pub invariant-loop-consumer : goal.invariant-loop-consumer
invariant-loop-consumer l =
    are_limited (table_at l.key (members_view l.file.entries)) (members_view l.consumer-iterator)
    ≡ are_limited (table_at l.key (members_view l.file.entries)) (members_view l.table.entries)
