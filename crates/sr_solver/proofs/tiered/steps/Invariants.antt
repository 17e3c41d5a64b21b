use Rattle.std.proofs.Common.{◌≡◌, ℕ, ◌<◌, length}
use Rattle.sr_solver.specs.Steps.{step_at}
use Rattle.sr_solver.specs.ByConsumer.{IsStepOf}
use Rattle.sr_solver.proofs.tiered.steps.Given as goal

abbrev pub invariant-loop-consumer : goal.invariant-loop-consumer
invariant-loop-consumer l = record {
  one_each : length l.steps.items ≡ l.consumer;
  each : (c : ℕ) → c < l.consumer → IsStepOf l.problem.tiers c (step_at l.steps.items c);
}
