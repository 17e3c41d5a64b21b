use Rattle.std.proofs.Common.{◌≡◌, ◌++◌, length}
use Rattle.sr_pending.proofs.pending.Pending.copy.Given as goal

abbrev pub invariant-loop-nack : goal.invariant-loop-nack
invariant-loop-nack l = l.copy.nacks ++ l.rest ≡ l.self.nacks

abbrev pub decreases-loop-nack : goal.decreases-loop-nack
decreases-loop-nack l = length l.rest
