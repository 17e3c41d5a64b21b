use Rattle.std.proofs.Common.{length}
use Rattle.sr_space.proofs.ClaimLemmas.{HasDeleted}
use Rattle.sr_space.proofs.commands.xclaim.deleted_reply.Given as goal

abbrev pub invariant-loop-item : goal.invariant-loop-item
invariant-loop-item l = HasDeleted l.initial.listed l.listed l.deleted

abbrev pub decreases-loop-item : goal.decreases-loop-item
decreases-loop-item l = length l.listed
