use Rattle.std.proofs.Common.{rules, ◌≡◌, get_or}
use Rattle.sr_live.proofs.DeadLemmas.{FindsEach-reads, finds-all, finds-next, finds-none}
use Rattle.sr_live.proofs.ReadingLemmas.{breaks-later, breaks-passed}
use Rattle.sr_live.proofs.dead.find_each.Goals as goal

pub loop-one-init : goal.loop-one-init
loop-one-init g c =
    let sought = c.args.sought.now in
    finds-none sought.key.now sought.group.now sought.after sought.numbers.now _ _ _ c.new-dead.ensures.items

pub loop-one-preserved : goal.loop-one-preserved
loop-one-preserved g c =
    let sought = c.args.sought.now in
    let one = c.one-item.result in
    let read : one ≡ get_or c.args.consumers.now c.loop-one.one-index one = search rules in
    finds-next sought.key.now sought.group.now sought.after sought.numbers.now (g.P.Peer.sent c.args.peer.now) (g.P.Peer.got c.args.peer.now)
    (g.P.Peer.sent c.loop-one.peer) (g.P.Peer.got c.loop-one.peer) (g.P.Peer.sent c.push_dead.new.peer)
    (g.P.Peer.got c.push_dead.new.peer) c.args.consumers.now c.loop-one.one-index one c.loop-one.dead.items
    c.push_dead.new.dead.items c.loop-one-test.true read c.loop-one.invariant c.in_ok-push_dead.ensures.ok

pub returns-in_err-push_dead-clause-err : goal.returns-in_err-push_dead-clause-err
returns-in_err-push_dead-clause-err g c =
    let sought = c.args.sought.now in
    let was = c.loop-one.invariant in
    let broken = c.in_err-push_dead.ensures.err in
    breaks-passed c.from_residual.result _ _ _ _ _ c.from_residual.ensures.1
    (breaks-later _ _ _ _ _ _ was.0 _ was.1 (FindsEach-reads sought.key.now sought.group.now sought.after sought.numbers.now _ _ _ was.2)
    broken)

pub returns-clause-ok : goal.returns-clause-ok
returns-clause-ok g c =
    let sought = c.args.sought.now in
    finds-all sought.key.now sought.group.now sought.after sought.numbers.now (g.P.Peer.sent c.args.peer.now) (g.P.Peer.got c.args.peer.now)
    (g.P.Peer.sent c.loop-one.peer) (g.P.Peer.got c.loop-one.peer) c.args.consumers.now c.loop-one.one-index
    c.loop-one.dead.items c.loop-one-test.false c.loop-one.invariant
