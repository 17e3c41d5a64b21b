use Rattle.std.proofs.Common.{IfErr, IfOk}
use Rattle.sr_live.proofs.RoundsLemmas.{IsChangedAt, IsStaleAt, SoFar}
use Rattle.sr_live.proofs.rounds.run.Given as goal

abbrev pub invariant-loop-tried : goal.invariant-loop-tried
invariant-loop-tried g l = record {
  so_far : SoFar l.policy l.asked l.terms (g.P.Peer.sent l.initial.peer) (g.P.Peer.got l.initial.peer)
      (g.P.Peer.sent l.peer) (g.P.Peer.got l.peer) l._tried;
  stale : IfOk l.ran (IsStaleAt l.policy l.asked l.terms (g.P.Peer.sent l.initial.peer)
      (g.P.Peer.got l.initial.peer) (g.P.Peer.sent l.peer) (g.P.Peer.got l.peer) l._tried);
  changed : IfErr l.ran (IsChangedAt l.policy l.asked l.terms (g.P.Peer.sent l.initial.peer)
      (g.P.Peer.got l.initial.peer) (g.P.Peer.sent l.peer) (g.P.Peer.got l.peer) l._tried);
}
