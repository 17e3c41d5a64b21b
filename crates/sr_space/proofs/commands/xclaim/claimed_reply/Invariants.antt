use Rattle.std.proofs.Common.{length}
use Rattle.sr_space.proofs.ClaimLemmas.{HasClaimed}
use Rattle.sr_space.proofs.commands.xclaim.claimed_reply.Given as goal

abbrev pub invariant-loop-item : goal.invariant-loop-item
invariant-loop-item l = HasClaimed l.just_ids l.entries.entries l.initial.listed l.listed l.claimed

abbrev pub decreases-loop-item : goal.decreases-loop-item
decreases-loop-item l = length l.listed
