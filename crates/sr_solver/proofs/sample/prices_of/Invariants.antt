use Rattle.sr_solver.specs.Order.{IsPartOf}
use Rattle.sr_solver.proofs.sample.prices_of.Given as goal

abbrev pub invariant-loop : goal.invariant-loop
invariant-loop l = IsPartOf l.source l.sample.items
