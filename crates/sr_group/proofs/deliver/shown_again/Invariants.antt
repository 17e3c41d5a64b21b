use Rattle.std.proofs.Common.{◌≡◌, ◌++◌, length, map}
use Rattle.sr_group.specs.steps.Showing.{again}
use Rattle.sr_group.proofs.deliver.shown_again.Given as goal

abbrev pub invariant-loop-nack : goal.invariant-loop-nack
invariant-loop-nack l =
    l.acts.items ++ map (again l.moment l.entries.entries) l.rest ≡ map (again l.moment l.entries.entries) l.initial.rest

abbrev pub decreases-loop-nack : goal.decreases-loop-nack
decreases-loop-nack l = length l.rest
