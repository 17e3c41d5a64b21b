use Rattle.std.proofs.Common.{◌≡◌, ◌++◌, length, map}
use Rattle.sr_space.proofs.snap.left_and_live.push_own.Given as goal

abbrev pub invariant-loop-nack : goal.invariant-loop-nack
invariant-loop-nack l = map (λ nack. nack.now) l.list.items ++ l.own ≡ map (λ nack. nack.now) l.initial.list.items ++ l.initial.own

abbrev pub decreases-loop-nack : goal.decreases-loop-nack
decreases-loop-nack l = length l.own
