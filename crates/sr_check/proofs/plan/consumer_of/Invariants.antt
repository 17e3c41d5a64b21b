use Rattle.std.proofs.Common.{◌≡◌, ℕ, ◌<◌}
use Rattle.sr_check.specs.PlanAnswer.{name_at}
use Rattle.sr_check.proofs.plan.consumer_of.Given as goal

abbrev pub invariant-loop-number : goal.invariant-loop-number
invariant-loop-number l = (k : ℕ) → k < l.number → name_at l.live k ≡ l.name → ⊥
