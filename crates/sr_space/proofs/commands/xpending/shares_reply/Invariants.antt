use Rattle.sr_space.proofs.PendingLemmas.{HasSharesFrom}
use Rattle.sr_space.proofs.commands.xpending.shares_reply.Given as goal

abbrev pub invariant-loop-place : goal.invariant-loop-place
invariant-loop-place l = HasSharesFrom l.place l.consumer-items l.group.shown.nacks l.shares
