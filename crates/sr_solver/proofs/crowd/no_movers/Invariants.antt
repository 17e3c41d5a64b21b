use Rattle.std.proofs.Common.{◌≡◌, ℕ, length, None}
use Rattle.sr_solver.specs.Crowd.{mover_at}
use Rattle.sr_solver.proofs.crowd.no_movers.Given as goal

abbrev pub invariant-loop-consumer : goal.invariant-loop-consumer
invariant-loop-consumer l = record {
  each : length l.movers.items ≡ l._consumer;
  none : (c : ℕ) → mover_at l.movers.items c ≡ None;
}
