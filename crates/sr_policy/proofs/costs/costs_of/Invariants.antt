use Rattle.std.proofs.Common.{◌≡◌, take}
use Rattle.std.specs.List.{flat_map}
use Rattle.sr_policy.specs.Problem.{costs_of}
use Rattle.sr_policy.proofs.costs.costs_of.Given as goal

abbrev pub invariant-loop-entry : goal.invariant-loop-entry
invariant-loop-entry l = l.costs.items ≡ flat_map (costs_of l.snapshot) (take l.entry-index l.entries)
