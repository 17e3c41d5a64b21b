use Rattle.std.proofs.Common.{length}
use Rattle.sr_space.proofs.ReadGroupLemmas.{HasListed}
use Rattle.sr_space.proofs.commands.xreadgroup.history_reply.Given as goal

abbrev pub invariant-loop-item : goal.invariant-loop-item
invariant-loop-item l = HasListed l.entries.entries l.initial.listed l.listed l.items

abbrev pub decreases-loop-item : goal.decreases-loop-item
decreases-loop-item l = length l.listed
