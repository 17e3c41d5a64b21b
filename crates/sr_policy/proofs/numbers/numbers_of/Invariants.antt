use Rattle.std.proofs.Common.{◌≡◌, ◌++◌}
use Rattle.toml.specs.View.{members_view}
use Rattle.sr_policy.specs.File.{numbers_of}
use Rattle.sr_policy.proofs.numbers.numbers_of.Given as goal

abbrev pub invariant-loop-key : goal.invariant-loop-key
invariant-loop-key l =
    l.pairs.items ++ numbers_of (members_view l.key-iterator) ≡ numbers_of (members_view l.table.entries)
