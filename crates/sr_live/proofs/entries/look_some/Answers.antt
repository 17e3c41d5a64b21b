use Rattle.std.proofs.Common.{rules, ◌≡◌, ◌++◌, ◌-◌}
use Rattle.sr_live.proofs.FirstLemmas.{stranded_in}
use Rattle.sr_live.proofs.LookingLemmas.{found-together}
use Rattle.sr_live.proofs.ReadingLemmas.{LooksEntries-reads, breaks-memory, reads-whole}
use Rattle.sr_live.proofs.entries.look_some.Goals as goal

pub returns-in_err-append-clause-err : goal.returns-in_err-append-clause-err
returns-in_err-append-clause-err g c =
    let seen = c.in_ok-look_together.ensures.ok in
    breaks-memory c.from_residual-in_err-append.result _ _ _ _ c.from_residual-in_err-append.ensures.1
    (reads-whole _ _ _ _ seen.0 seen.2 (LooksEntries-reads c.args.asked.now.key _ _ seen.3))

pub returns-clause-ok : goal.returns-clause-ok
returns-clause-ok g c =
    let rows = c.look_together.new.rows.items in
    let counted : c.saturating_sub-found.result ≡ c.args.found.now.wanted - stranded_in rows = search rules in
    let joined : c.append.new.self.items ≡ c.args.found.now.rows.items ++ rows = search rules in
    found-together c.args.asked.now.key (g.P.Peer.sent c.args.peer.now) (g.P.Peer.got c.args.peer.now)
    (g.P.Peer.sent c.look_together.new.peer) (g.P.Peer.got c.look_together.new.peer) c.in_ok-more.more.items rows
    c.args.found.now.rows.items c.append.new.self.items c.args.found.now.wanted c.saturating_sub-found.result
    c.args.listed.now c.in_ok-more.ensures.items c.requires.some c.requires.most counted joined
    c.in_ok-look_together.ensures.ok
