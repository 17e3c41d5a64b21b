use Rattle.std.proofs.Common.{◌≡◌}
use Rattle.toml.specs.View.{members_view}
use Rattle.sr_policy.specs.File.{are_up_to}
use Rattle.sr_policy.proofs.range.are_up_to.Given as goal

abbrev pub invariant-loop-key : goal.invariant-loop-key
invariant-loop-key l =
    are_up_to l.most (members_view l._key-iterator) ≡ are_up_to l.most (members_view l.numbers.entries)
