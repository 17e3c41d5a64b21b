use Rattle.std.proofs.lemmas.Result.{IfErr-weaker, IfOk-weaker}
use Rattle.std.proofs.Common.{◌≡◌, ℕ, List, inl, inr, refl, subst}
use Rattle.sr_policy.specs.{Text}
use Rattle.sr_live.proofs.DeadLemmas.{FindsSince, found-from}
use Rattle.sr_live.proofs.ReadingLemmas.{breaks-later, breaks-passed}
use Rattle.sr_live.proofs.dead.find_dead.Goals as goal

pub returns-in_err-idles-clause-err : goal.returns-in_err-idles-clause-err
returns-in_err-idles-clause-err g c =
    let broken = c.in_err-idles.ensures.err in
    breaks-passed c.from_residual.result _ _ _ _ _ c.from_residual.ensures.1 broken

pub returns-in_err-numbers-clause-err : goal.returns-in_err-numbers-clause-err
returns-in_err-numbers-clause-err g c =
    let first = c.in_ok-idles.ensures.ok in
    let broken = c.in_err-numbers.ensures.err in
    breaks-passed c.from_residual-in_err-numbers.result _ _ _ _ _ c.from_residual-in_err-numbers.ensures.1
    (breaks-later _ _ _ _ _ _ _ _ first.1 (inl refl, tt) broken)

pub returns-clause-ok : goal.returns-clause-ok
returns-clause-ok g c =
    let numbers = c.in_ok-numbers.numbers.items in
    let same : c.as_slice.result.now ≡ numbers = c.as_slice.ensures.value in
    IfOk-weaker c.find_each.result _ _ (λ dead since. found-from c.args.key.now c.args.group.now c.args.after numbers
    (g.P.Peer.sent c.args.peer.now) (g.P.Peer.got c.args.peer.now) (g.P.Peer.sent c.look_idles.new.peer)
    (g.P.Peer.got c.look_idles.new.peer) (g.P.Peer.sent c.look_numbers.new.peer) (g.P.Peer.got c.look_numbers.new.peer)
    (g.P.Peer.sent c.find_each.new.peer) (g.P.Peer.got c.find_each.new.peer)
    c.in_ok-idles.idles.items c.as_slice-2.result.now dead.items c.as_slice-2.ensures.value c.in_ok-idles.ensures.ok
    c.in_ok-numbers.ensures.ok
    (subst (λ (l : List (Text × ℕ)). FindsSince c.args.key.now c.args.group.now c.args.after l
    (g.P.Peer.sent c.look_numbers.new.peer) (g.P.Peer.got c.look_numbers.new.peer) (g.P.Peer.sent c.find_each.new.peer)
    (g.P.Peer.got c.find_each.new.peer) c.as_slice-2.result.now dead.items) same since))
    c.find_each.ensures.ok

pub returns-clause-err : goal.returns-clause-err
returns-clause-err g c =
    let first = c.in_ok-idles.ensures.ok in
    let second = c.in_ok-numbers.ensures.ok in
    IfErr-weaker c.find_each.result _ _
    (λ fault broken. breaks-later _ _ _ _ _ _ _ fault first.1 (inl refl, tt)
    (breaks-later _ _ _ _ _ _ _ fault second.1 (inr (inl refl), tt) broken)) c.find_each.ensures.err
