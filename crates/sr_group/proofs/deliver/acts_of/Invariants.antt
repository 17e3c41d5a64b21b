use Rattle.std.proofs.Common.{◌≡◌, ◌++◌, length, map}
use Rattle.sr_group.specs.steps.Showing.{delivery_of}
use Rattle.sr_group.proofs.deliver.acts_of.Given as goal

abbrev pub invariant-loop-entry : goal.invariant-loop-entry
invariant-loop-entry l =
    l.acts.items ++ map (delivery_of l.reader l.moment l.noack) l.rest ≡ map (delivery_of l.reader l.moment l.noack) l.initial.rest

abbrev pub decreases-loop-entry : goal.decreases-loop-entry
decreases-loop-entry l = length l.rest
