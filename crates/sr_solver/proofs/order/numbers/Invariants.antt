use Rattle.std.proofs.Common.{◌≡◌}
use Rattle.sr_solver.specs.Order.{numbers_below}
use Rattle.sr_solver.proofs.order.numbers.Given as goal

abbrev pub invariant-loop-number : goal.invariant-loop-number
invariant-loop-number l = l.numbers.items ≡ numbers_below l.number
