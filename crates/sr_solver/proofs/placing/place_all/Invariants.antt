use Rattle.std.proofs.Common.{◌≡◌, length}
use Rattle.sr_transport.specs.{consumers}
use Rattle.sr_solver.specs.Placed.{IsStanding}
use Rattle.sr_solver.specs.Table.{IsTable}
use Rattle.sr_solver.proofs.placing.place_all.Given as goal

abbrev pub invariant-loop-entry : goal.invariant-loop-entry
invariant-loop-entry l = record {
  standing : IsStanding l.problem.columns l.problem.steps.now l.entry l.placement;
  table : IsTable l.problem.columns l.placement.assign.items l.known.table;
  labels_each : length l.known.front.labels.items ≡ consumers l.problem.columns;
}
