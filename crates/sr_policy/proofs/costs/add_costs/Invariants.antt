use Rattle.std.proofs.Common.{◌≡◌, ◌++◌, take}
use Rattle.sr_policy.specs.Problem.{costs_at}
use Rattle.sr_policy.proofs.costs.add_costs.Given as goal

abbrev pub invariant-loop-rate : goal.invariant-loop-rate
invariant-loop-rate l = l.costs.items ≡ l.initial.costs.items ++ costs_at l.weight (take l.rate-index l.rates)
