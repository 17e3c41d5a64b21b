use Rattle.std.proofs.Common.{◌≡◌, length}
use Rattle.sr_solver.specs.Order.{IsRenamed}
use Rattle.sr_solver.proofs.order.rename.Given as goal

abbrev pub invariant-loop-place : goal.invariant-loop-place
invariant-loop-place l = record {
  every : length l.renamed ≡ length l.assign;
  renamed : IsRenamed l.order l.assign l.renamed l.place;
}
