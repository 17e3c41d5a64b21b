use Rattle.std.proofs.Common.{◌≡◌, take}
use Rattle.sr_group.specs.Group.{counts_of}
use Rattle.sr_group.proofs.listing.counts_for.Given as goal

abbrev pub invariant-loop-consumer : goal.invariant-loop-consumer
invariant-loop-consumer l = l.counts.items ≡ counts_of (take l.consumer-index l.consumers) l.pending.nacks
