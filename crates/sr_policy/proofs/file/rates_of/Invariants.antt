use Rattle.std.proofs.Common.{◌≡◌, ◌++◌}
use Rattle.toml.specs.View.{members_view}
use Rattle.sr_policy.specs.File.{rates_of}
use Rattle.sr_policy.proofs.file.rates_of.Given as goal

abbrev pub invariant-loop-class : goal.invariant-loop-class
invariant-loop-class l =
    l.rates.items ++ rates_of (members_view l.class-iterator) ≡ rates_of (members_view l.classes.entries)
