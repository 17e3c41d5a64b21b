use Rattle.std.specs.Prelude.{◌≤◌, ◌-◌}
use Rattle.sr_start.proofs.serving.accept_all.Given as goal

abbrev pub invariant-loop-count : goal.invariant-loop-count
invariant-loop-count g l = l.count ≤ l.accepts

abbrev pub decreases-loop-count : goal.decreases-loop-count
decreases-loop-count g l = l.accepts - l.count
