use Rattle.std.specs.Io.KnownBytes.{Appends}
use Rattle.std.proofs.Common.{◌≡◌, ◌-◌, ◌≤◌, length}
use Rattle.sr_peer.specs.Arriving.{most_bytes}
use Rattle.sr_peer.proofs.peer.ask.Given as goal

abbrev pub invariant-loop-alloc : goal.invariant-loop-alloc
invariant-loop-alloc g l = record {
  sent : Appends (g.P.Peer.sent l.fn.peer) (g.P.Peer.sent l.peer) l.requests;
  got : Appends (g.P.Peer.got l.fn.peer) (g.P.Peer.got l.peer) l.answers.text;
  count : l.answers.count ≡ l.fn.count;
  short : length l.answers.text ≤ most_bytes;
}

abbrev pub decreases-loop-alloc : goal.decreases-loop-alloc
decreases-loop-alloc g l = most_bytes - length l.answers.text
