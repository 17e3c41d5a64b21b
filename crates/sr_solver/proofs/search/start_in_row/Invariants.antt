use Rattle.std.specs.Prelude.{None}
use Rattle.std.proofs.Common.{◌≡◌, ℕ, ◌<◌, ◌≤◌, length, get_or}
use Rattle.sr_transport.specs.{consumers}
use Rattle.sr_transport.specs.plain.Problem.{cost_at}
use Rattle.sr_solver.specs.Labels.{IsFirstLabel, unreached, label_at}
use Rattle.sr_solver.specs.Cutoff.{IsCutoff}
use Rattle.sr_solver.specs.Sets.{AreWaiting}
use Rattle.sr_solver.proofs.GapLemmas.{looked_at}
use Rattle.sr_solver.proofs.search.start_in_row.Given as goal

abbrev pub invariant-loop-pair : goal.invariant-loop-pair
invariant-loop-pair l = record {
  every : length l.front.labels.items ≡ consumers l.problem.columns;
  each : (c : ℕ) → c < looked_at l.row.pairs.now l.pair-index
      → IsFirstLabel (cost_at l.problem.columns l.row.number c) (get_or l.placement.prices.items c 0) l.row.number
      (label_at l.front.labels.items c);
  none : (c : ℕ) → looked_at l.row.pairs.now l.pair-index ≤ c → c < consumers l.problem.columns
      → label_at l.front.labels.items c ≡ unreached;
  waiting : AreWaiting (looked_at l.row.pairs.now l.pair-index) None l.front.labels.items l.front.waiting;
  cutoff : IsCutoff l.problem.columns l.problem.steps.now l.placement.assign.items l.placement.prices.items l.front.labels.items
      (looked_at l.row.pairs.now l.pair-index) l.cutoff;
}
