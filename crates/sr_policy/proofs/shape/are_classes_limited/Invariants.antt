use Rattle.std.proofs.Common.{◌≡◌}
use Rattle.toml.specs.View.{members_view}
use Rattle.sr_policy.specs.File.{limits_in, are_all_limited}
use Rattle.sr_policy.proofs.shape.are_classes_limited.Given as goal

abbrev pub invariant-loop-class : goal.invariant-loop-class
invariant-loop-class l =
    are_all_limited (limits_in (members_view l.file.entries)) (members_view l._class-iterator)
    ≡ are_all_limited (limits_in (members_view l.file.entries)) (members_view l.classes.entries)
