use Rattle.sr_live.proofs.ConsumersLemmas.{live-from}
use Rattle.sr_live.proofs.ReadingLemmas.{LooksIdle-reads, breaks-later, breaks-passed}
use Rattle.sr_live.proofs.consumers.look_live.Goals as goal

pub returns-in_err-idles-clause-err : goal.returns-in_err-idles-clause-err
returns-in_err-idles-clause-err g c =
    let broken = c.in_err-idles.ensures.err in
    breaks-passed c.from_residual.result _ _ _ _ _ c.from_residual.ensures.1 broken

pub returns-in_err-numbers-clause-err : goal.returns-in_err-numbers-clause-err
returns-in_err-numbers-clause-err g c =
    let asked = c.args.asked.now in
    let seen = c.in_ok-idles.ensures.ok in
    let broken = c.in_err-numbers.ensures.err in
    breaks-passed c.from_residual-in_err-numbers.result _ _ _ _ _ c.from_residual-in_err-numbers.ensures.1
    (breaks-later _ _ _ _ _ _ seen.0 _ seen.1 (LooksIdle-reads asked.key asked.group asked.seen_within _ _ seen.2)
    broken)

pub returns-clause-ok : goal.returns-clause-ok
returns-clause-ok g c =
    let asked = c.args.asked.now in
    live-from (g.P.Peer.sent c.args.peer.now) (g.P.Peer.got c.args.peer.now) (g.P.Peer.sent c.look_seen.new.peer)
    (g.P.Peer.got c.look_seen.new.peer) (g.P.Peer.sent c.look_numbers.new.peer) (g.P.Peer.got c.look_numbers.new.peer)
    asked.key asked.group asked.seen_within c.in_ok-idles.idles.items c.in_ok-numbers.numbers.items
    c.in_ok-idles.ensures.ok c.in_ok-numbers.ensures.ok
