use Rattle.std.proofs.Common.{◌≡◌, ◌+◌, length}
use Rattle.sr_group.proofs.listing.Idle.len.Given as goal

abbrev pub invariant-loop-count : goal.invariant-loop-count
invariant-loop-count l = l.count + length l.rest ≡ length l.self

abbrev pub decreases-loop-count : goal.decreases-loop-count
decreases-loop-count l = length l.rest
