use Rattle.std.proofs.Common.{◌≡◌, ◌++◌, List, drop}
use Rattle.sr_ids.specs.declared.id.Id.{Id}
use Rattle.sr_policy.specs.{Text}
use Rattle.sr_live.specs.Looking.{Exchange, Talks}
use Rattle.sr_live.specs.steps.Listing.{Widens}
use Rattle.sr_live.proofs.listing.list_on.Given as goal

abbrev pub invariant-loop-one : goal.invariant-loop-one
invariant-loop-one g l =
    (talk : List Exchange) × (more : List (Id × Text))
    × Talks (g.P.Peer.sent l.fn.peer) (g.P.Peer.got l.fn.peer) (g.P.Peer.sent l.peer) (g.P.Peer.got l.peer) talk
    × Widens l.asked.key l.asked.group l.asked.claimable l.listings (l.wider.items ++ drop l.one-index l.listings) talk more
    × (l.ahead.items ≡ l.fn.ahead.items ++ more)
