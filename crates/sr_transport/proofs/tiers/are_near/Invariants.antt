use Rattle.std.proofs.Common.{ℕ, ◌<◌}
use Rattle.sr_transport.specs.Problem.{IsOneOfTwo}
use Rattle.sr_transport.proofs.tiers.are_near.Given as goal

abbrev pub invariant-loop-number : goal.invariant-loop-number
invariant-loop-number l = (t : ℕ) → t < l.number → IsOneOfTwo l.consumers l.tiers t
