use Rattle.std.proofs.Common.{◌≡◌}
use Rattle.toml.specs.View.{members_view}
use Rattle.sr_policy.specs.File.{are_all_up_to}
use Rattle.sr_policy.proofs.range.are_all_up_to.Given as goal

abbrev pub invariant-loop-class : goal.invariant-loop-class
invariant-loop-class l =
    are_all_up_to l.most (members_view l._class-iterator) ≡ are_all_up_to l.most (members_view l.classes.entries)
