use Rattle.std.proofs.Common.{length}
use Rattle.sr_live.proofs.LookingLemmas.{AreFound}
use Rattle.sr_live.proofs.entries.look_first.Given as goal

abbrev pub invariant-loop-left : goal.invariant-loop-left
invariant-loop-left g l =
    AreFound l.asked.key (g.P.Peer.sent l.fn.peer) (g.P.Peer.got l.fn.peer) (g.P.Peer.sent l.peer) (g.P.Peer.got l.peer)
    l.fn.found.rows.items l.found.rows.items l.fn.found.wanted l.found.wanted l.left l.listed

abbrev pub decreases-loop-left : goal.decreases-loop-left
decreases-loop-left g l = length l.left
