use Rattle.std.proofs.Common.{ℕ, ◌<◌}
use Rattle.sr_transport.specs.Problem.{HasFirst}
use Rattle.sr_transport.proofs.tiers.have_first.Given as goal

abbrev pub invariant-loop-consumer : goal.invariant-loop-consumer
invariant-loop-consumer l = (c : ℕ) → c < l.consumer → HasFirst l.tiers c
