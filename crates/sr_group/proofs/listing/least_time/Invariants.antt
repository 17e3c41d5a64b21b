use Rattle.std.proofs.Common.{◌≡◌, length}
use Rattle.sr_group.specs.Group.{oldest_of}
use Rattle.sr_group.specs.steps.Listing.{earlier_of}
use Rattle.sr_group.proofs.listing.least_time.Given as goal

abbrev pub invariant-loop-nack : goal.invariant-loop-nack
invariant-loop-nack l = earlier_of l.least (oldest_of l.nacks) ≡ oldest_of l.initial.nacks

abbrev pub decreases-loop-nack : goal.decreases-loop-nack
decreases-loop-nack l = length l.nacks
