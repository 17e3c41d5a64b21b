use Rattle.std.proofs.Common.{◌≡◌, length}
use Rattle.sr_solver.specs.Pairs.{IsRowBelow}
use Rattle.sr_solver.proofs.costs.list.Given as goal

abbrev pub invariant-loop-consumer : goal.invariant-loop-consumer
invariant-loop-consumer l = record {
  room : length l.row ≡ length l.fn.row;
  row : IsRowBelow l.problem l.entry l.consumer l.count 0 l.row;
}
