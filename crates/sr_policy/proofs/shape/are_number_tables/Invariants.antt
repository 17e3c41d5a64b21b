use Rattle.std.proofs.Common.{◌≡◌}
use Rattle.toml.specs.View.{members_view}
use Rattle.sr_policy.specs.File.{are_number_tables}
use Rattle.sr_policy.proofs.shape.are_number_tables.Given as goal

abbrev pub invariant-loop-class : goal.invariant-loop-class
invariant-loop-class l =
    are_number_tables (members_view l._class-iterator) ≡ are_number_tables (members_view l.classes.entries)
