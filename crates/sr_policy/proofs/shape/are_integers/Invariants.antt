use Rattle.std.proofs.Common.{◌≡◌}
use Rattle.toml.specs.View.{members_view}
use Rattle.sr_policy.specs.File.{are_integers}
use Rattle.sr_policy.proofs.shape.are_integers.Given as goal

abbrev pub invariant-loop-key : goal.invariant-loop-key
invariant-loop-key l = are_integers (members_view l._key-iterator) ≡ are_integers (members_view l.numbers.entries)
