use Rattle.std.proofs.Common.{◌≡◌, ℕ, ◌<◌, ◌≤◌, length, get_or}
use Rattle.sr_transport.specs.Limits.{greatest_fee}
use Rattle.sr_solver.specs.Steps.{step_at}
use Rattle.sr_solver.proofs.sample.smaller_steps.Given as goal

abbrev pub invariant-loop-consumer : goal.invariant-loop-consumer
invariant-loop-consumer l = record {
  one_each : length l.steps.items ≡ l.consumer;
  first : (c : ℕ) → c < l.consumer → (step_at l.steps.items c).first ≤ get_or l.rooms c 0;
  small : (c : ℕ) → c < l.consumer → (step_at l.steps.items c).fee ≤ greatest_fee;
}
