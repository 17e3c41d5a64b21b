use Rattle.sr_solver.specs.Members.{IsSeen}
use Rattle.sr_solver.specs.Table.{IsKnown, IsFound}
use Rattle.sr_solver.proofs.table.find.Given as goal

abbrev pub invariant-loop-place : goal.invariant-loop-place
invariant-loop-place l = record {
  known : IsKnown l.problem
      (IsSeen l.problem l.placement.assign.items l.members l.row l.place l.from) l.from l.to l.found;
  found : IsFound l.problem l.found;
}
