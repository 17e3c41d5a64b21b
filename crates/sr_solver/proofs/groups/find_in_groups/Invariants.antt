use Rattle.std.proofs.Common.{◌≡◌, ◌<◌, length}
use Rattle.sr_solver.specs.Groups.{IsAt, AreLowsOf}
use Rattle.sr_solver.proofs.groups.find_in_groups.Given as goal

abbrev pub invariant-loop : goal.invariant-loop
invariant-loop l = record {
  group : l.group < l.groups.count;
  length : length l.lows ≡ length l.fn.lows;
  lows : AreLowsOf l.problem (IsAt l.placement.assign.items l.problem.entries) l.groups l.lows;
}
