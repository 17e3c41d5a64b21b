use Rattle.std.proofs.Common.{◌≡◌}
use Rattle.sr_solver.specs.Labels.{label_at}
use Rattle.sr_solver.specs.Path.{IsShifting}
use Rattle.sr_solver.specs.Table.{IsTable}
use Rattle.sr_solver.specs.Members.{AreMembers}
use Rattle.sr_solver.proofs.path.shift.Given as goal

abbrev pub invariant-path : goal.invariant-path
invariant-path l = record {
  shifting : IsShifting l.route.labels.now l.route.entry l.route.end.consumer l.fn.placement.assign.items l.placement.assign.items l.place;
  prices : l.placement.prices ≡ l.fn.placement.prices;
  loads : l.placement.loads ≡ l.fn.placement.loads;
  width : l.placement.width ≡ l.fn.placement.width;
  members : AreMembers l.problem l.placement.width l.placement.assign.items l.placement.members.items;
  table : IsTable l.problem l.placement.assign.items l.table;
}

abbrev pub decreases-path : goal.decreases-path
decreases-path l = (label_at l.route.labels.now l.place).hops
