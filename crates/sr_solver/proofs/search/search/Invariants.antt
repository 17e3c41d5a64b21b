use Rattle.std.proofs.Common.{◌+◌, ◌*◌}
use Rattle.sr_transport.specs.{consumers}
use Rattle.sr_solver.specs.Labels.{open_count, guess_count}
use Rattle.sr_solver.specs.Table.{IsTable}
use Rattle.sr_solver.specs.Cutoff.{length_of, IsCutoff}
use Rattle.sr_solver.specs.Sets.{AreWaiting}
use Rattle.sr_solver.specs.Search.{IsRound}
use Rattle.sr_solver.proofs.search.search.Given as goal

abbrev pub invariant-loop-near : goal.invariant-loop-near
invariant-loop-near l = record {
  table : IsTable l.seeker.problem.now.columns l.seeker.placement.now.assign.items l.table;
  round : IsRound l.seeker.problem.now.columns l.seeker.entry l.seeker.placement.now.assign.items l.seeker.placement.now.prices.items (length_of l.front.cutoff)
      l.front.labels.items;
  waiting : AreWaiting (consumers l.seeker.problem.now.columns) (length_of l.front.cutoff) l.front.labels.items l.front.waiting;
  cutoff : IsCutoff l.seeker.problem.now.columns l.seeker.problem.now.steps.now l.seeker.placement.now.assign.items l.seeker.placement.now.prices.items l.front.labels.items
      (consumers l.seeker.problem.now.columns) l.front.cutoff;
}

abbrev pub decreases-loop-near : goal.decreases-loop-near
decreases-loop-near l = open_count l.front.labels.items * 65 + guess_count l.front.labels.items
