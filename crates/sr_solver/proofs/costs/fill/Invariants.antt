use Rattle.std.proofs.Common.{◌≡◌, length}
use Rattle.sr_transport.specs.{consumers}
use Rattle.sr_solver.specs.Pairs.{IsRowBelow}
use Rattle.sr_solver.proofs.costs.fill.Given as goal

abbrev pub invariant-loop-place : goal.invariant-loop-place
invariant-loop-place l = record {
  room : length l.row ≡ length l.fn.row;
  row : IsRowBelow l.problem l.entry (consumers l.problem) l.count l.place l.row;
}
