use Rattle.std.proofs.Common.{◌≡◌, ◌-◌, ◌≤◌, slice_index}
use Rattle.sr_transport.specs.{consumers}
use Rattle.sr_solver.specs.Table.{IsTable}
use Rattle.sr_solver.specs.Cutoff.{length_of, IsCutoff}
use Rattle.sr_solver.specs.Exits.{IsExit}
use Rattle.sr_solver.specs.Sets.{AreWaiting}
use Rattle.sr_solver.specs.Labels.{label_at}
use Rattle.sr_solver.specs.Offers.{IsClosed}
use Rattle.sr_solver.proofs.search.close.Given as goal

abbrev pub invariant-loop-other : goal.invariant-loop-other
invariant-loop-other l = record {
  table : IsTable l.seeker.problem.now.columns l.seeker.placement.now.assign.items l.table;
  closed : IsClosed l.seeker.problem.now.columns l.seeker.entry l.seeker.placement.now.assign.items l.seeker.placement.now.prices.items (length_of l.front.cutoff)
      l.fn.front.labels.items
      l.front.labels.items l.near l.first;
  waiting : AreWaiting (consumers l.seeker.problem.now.columns) (length_of l.front.cutoff) l.front.labels.items l.front.waiting;
  exit : IsExit l.near (label_at l.front.labels.items l.near).dist (slice_index l.seeker.placement.now.prices.items l.near)
      (length_of l.front.cutoff) l.exit;
  still : (label_at l.front.labels.items l.near).dist ≡ l.label.dist;
  within : l.first ≤ consumers l.seeker.problem.now.columns;
  cutoff : IsCutoff l.seeker.problem.now.columns l.seeker.problem.now.steps.now l.seeker.placement.now.assign.items l.seeker.placement.now.prices.items l.front.labels.items
      (consumers l.seeker.problem.now.columns) l.front.cutoff;
}

abbrev pub decreases-loop-other : goal.decreases-loop-other
decreases-loop-other l = consumers l.seeker.problem.now.columns - l.first
