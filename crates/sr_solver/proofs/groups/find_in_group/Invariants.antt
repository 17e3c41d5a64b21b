use Rattle.std.proofs.Common.{◌≤◌, ◌≡◌, ◌⊎◌}
use Rattle.sr_solver.specs.Groups.{IsBetween}
use Rattle.sr_solver.specs.Table.{IsKnown, IsFound}
use Rattle.sr_solver.proofs.groups.find_in_group.Given as goal

abbrev pub invariant-loop-entry : goal.invariant-loop-entry
invariant-loop-entry l = record {
  from : l.first ≤ l.entry;
  upto : (l.entry ≤ l.end) ⊎ (l.entry ≡ l.first);
  known : IsKnown l.problem (IsBetween l.assign l.problem.entries l.from l.first l.entry) l.from l.to l.found;
  found : IsFound l.problem l.found;
}
