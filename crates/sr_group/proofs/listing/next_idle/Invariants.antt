use Rattle.std.proofs.Common.{◌≡◌, length}
use Rattle.sr_group.specs.Group.{idle_for}
use Rattle.sr_group.proofs.listing.next_idle.Given as goal

abbrev pub invariant-loop-nack : goal.invariant-loop-nack
invariant-loop-nack l = idle_for l.least_idle l.moment l.rest ≡ idle_for l.least_idle l.moment l.initial.rest

abbrev pub decreases-loop-nack : goal.decreases-loop-nack
decreases-loop-nack l = length l.rest
