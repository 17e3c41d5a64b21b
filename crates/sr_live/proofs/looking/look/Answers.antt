use Rattle.std.proofs.Common.{inl, refl}
use Rattle.sr_live.proofs.ReadingLemmas.{LooksRows-reads, breaks-later, breaks-passed}
use Rattle.sr_live.proofs.TalkLemmas.{looked-from}
use Rattle.sr_live.proofs.looking.look.Goals as goal

pub returns-in_err-removed-clause-err : goal.returns-in_err-removed-clause-err
returns-in_err-removed-clause-err g c =
    let broken = c.in_err-removed.ensures.err in
    breaks-passed c.from_residual.result _ _ _ _ _ c.from_residual.ensures.1 broken

pub returns-in_err-rows-clause-err : goal.returns-in_err-rows-clause-err
returns-in_err-rows-clause-err g c =
    let removed = c.in_ok-removed.ensures.ok in
    let broken = c.in_err-rows.ensures.err in
    breaks-passed c.from_residual-in_err-rows.result _ _ _ _ _ c.from_residual-in_err-rows.ensures.1
    (breaks-later _ _ _ _ _ _ _ _ removed.1 (inl refl, tt) broken)

pub returns-in_err-idles-clause-err : goal.returns-in_err-idles-clause-err
returns-in_err-idles-clause-err g c =
    let removed = c.in_ok-removed.ensures.ok in
    let rows = c.in_ok-rows.ensures.ok in
    let broken = c.in_err-idles.ensures.err in
    breaks-passed c.from_residual-in_err-idles.result _ _ _ _ _ c.from_residual-in_err-idles.ensures.1
    (breaks-later _ _ _ _ _ _ _ _ removed.1 (inl refl, tt)
    (breaks-later _ _ _ _ _ _ rows.0 _ rows.1
    (LooksRows-reads c.args.asked.now.key c.args.asked.now.group c.args.asked.now.claimable c.args.asked.now.dead.items
    c.args.at_most _ _ _ rows.2)
    broken))

pub returns-clause-ok : goal.returns-clause-ok
returns-clause-ok g c =
    looked-from (g.P.Peer.sent c.args.peer.now) (g.P.Peer.got c.args.peer.now) (g.P.Peer.sent c.look_removed.new.peer)
    (g.P.Peer.got c.look_removed.new.peer) (g.P.Peer.sent c.look_rows.new.peer) (g.P.Peer.got c.look_rows.new.peer)
    (g.P.Peer.sent c.look_live.new.peer) (g.P.Peer.got c.look_live.new.peer) c.args.asked.now c.args.at_most _ _ _ _
    c.in_ok-removed.removed c.in_ok-removed.ensures.ok c.in_ok-rows.ensures.ok c.in_ok-idles.ensures.ok
