use Rattle.std.proofs.Common.{◌<◌, List}
use Rattle.sr_live.specs.Looking.{Exchange, Talks}
use Rattle.sr_live.proofs.ListingLemmas.{IsUnderWay}
use Rattle.sr_live.proofs.looking.look_rows.Given as goal

abbrev pub invariant-loop : goal.invariant-loop
invariant-loop g l =
    (talk : List Exchange)
    × Talks (g.P.Peer.sent l.fn.peer) (g.P.Peer.got l.fn.peer) (g.P.Peer.sent l.peer) (g.P.Peer.got l.peer) talk
    × IsUnderWay l.asked.key l.asked.group l.asked.claimable l.asked.dead.items l.at_most talk l.seen
    × (0 < l.seen.found.wanted)
