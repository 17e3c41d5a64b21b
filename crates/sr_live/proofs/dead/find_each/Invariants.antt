use Rattle.std.proofs.Common.{take}
use Rattle.sr_live.proofs.DeadLemmas.{FindsSince}
use Rattle.sr_live.proofs.dead.find_each.Given as goal

abbrev pub invariant-loop-one : goal.invariant-loop-one
invariant-loop-one g l =
    FindsSince l.sought.key.now l.sought.group.now l.sought.after l.sought.numbers.now (g.P.Peer.sent l.fn.peer) (g.P.Peer.got l.fn.peer)
    (g.P.Peer.sent l.peer) (g.P.Peer.got l.peer) (take l.one-index l.consumers) l.dead.items
