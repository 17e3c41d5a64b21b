use Rattle.std.proofs.Common.{length}
use Rattle.sr_space.proofs.PendingLemmas.{IsListing}
use Rattle.sr_space.proofs.commands.xpending.listing_reply.Given as goal

abbrev pub invariant-loop-nack : goal.invariant-loop-nack
invariant-loop-nack l = IsListing l.moment l.initial.listing l.listing l.draft

abbrev pub decreases-loop-nack : goal.decreases-loop-nack
decreases-loop-nack l = length l.listing
