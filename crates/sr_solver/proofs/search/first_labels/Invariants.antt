use Rattle.std.proofs.Common.{ℕ, ◌<◌, get_or}
use Rattle.sr_transport.specs.plain.Problem.{cost_at}
use Rattle.sr_solver.specs.Labels.{IsFirstLabel, label_at}
use Rattle.sr_solver.specs.Cutoff.{IsCutoff}
use Rattle.sr_solver.proofs.search.first_labels.Given as goal

abbrev pub invariant-loop-consumer : goal.invariant-loop-consumer
invariant-loop-consumer l = record {
  each : (c : ℕ) → c < l.consumer
      → IsFirstLabel (cost_at l.problem.columns l.entry c) (get_or l.placement.prices.items c 0) l.entry
      (label_at l.labels c);
  cutoff : IsCutoff l.problem.columns l.problem.steps.now l.placement.assign.items l.placement.prices.items l.labels l.consumer l.cutoff;
}
