use Rattle.std.proofs.Common.{rules, ◌≡◌, ◌<◌, ◌++◌, ◌∷◌, [], inl, inr, length, refl}
use Rattle.std.proofs.lemmas.List.{nil_from_length}
use Rattle.sr_live.specs.Looked.{number_of}
use Rattle.sr_live.proofs.DeadLemmas.{has-none, has-nothing, has-some, seen-lately}
use Rattle.sr_live.proofs.ReadingLemmas.{breaks-memory, reads-whole}
use Rattle.sr_live.proofs.dead.push_dead.Goals as goal

pub returns-then-one-sought-clause-ok : goal.returns-then-one-sought-clause-ok
returns-then-one-sought-clause-ok g c =
    let sought = c.args.sought.now in
    seen-lately sought.key.now sought.group.now sought.after sought.numbers.now c.args.one.now _ _ c.args.dead.now.items c.if-one-sought.true

pub returns-then-number_for-eq0-clause-ok : goal.returns-then-number_for-eq0-clause-ok
returns-then-number_for-eq0-clause-ok g c =
    let sought = c.args.sought.now in
    let none : number_of sought.numbers.now c.args.one.now.0 ≡ 0 = search rules in
    has-nothing sought.key.now sought.group.now sought.after sought.numbers.now c.args.one.now _ _ c.args.dead.now.items none

pub returns-then-is_empty-clause-ok : goal.returns-then-is_empty-clause-ok
returns-then-is_empty-clause-ok g c =
    let sought = c.args.sought.now in
    let old = c.in_ok-old.old.items in
    let empty : length old ≡ 0 = search rules in
    let has : 0 < number_of sought.numbers.now c.args.one.now.0 = search rules in
    has-none sought.key.now sought.group.now sought.after sought.numbers.now c.args.one.now (g.P.Peer.sent c.args.peer.now)
    (g.P.Peer.got c.args.peer.now) (g.P.Peer.sent c.look_old.new.peer) (g.P.Peer.got c.look_old.new.peer)
    c.args.dead.now.items old c.if-one-sought.false has (nil_from_length old empty) c.in_ok-old.ensures.ok

pub returns-clause-ok : goal.returns-clause-ok
returns-clause-ok g c =
    let sought = c.args.sought.now in
    let old = c.in_ok-old.old.items in
    let some : 0 < length old = search rules in
    let has : 0 < number_of sought.numbers.now c.args.one.now.0 = search rules in
    let pushed : c.push.new.self.items ≡ c.args.dead.now.items ++ c.args.one.now.0 ∷ [] = search rules in
    has-some sought.key.now sought.group.now sought.after sought.numbers.now c.args.one.now (g.P.Peer.sent c.args.peer.now)
    (g.P.Peer.got c.args.peer.now) (g.P.Peer.sent c.look_old.new.peer) (g.P.Peer.got c.look_old.new.peer)
    c.args.dead.now.items c.push.new.self.items old c.if-one-sought.false has some pushed c.in_ok-old.ensures.ok

pub returns-in_err-copy-clause-err : goal.returns-in_err-copy-clause-err
returns-in_err-copy-clause-err g c =
    let asked = c.in_ok-old.ensures.ok in
    breaks-memory c.from_residual-in_err-copy.result _ _ _ _ c.from_residual-in_err-copy.ensures.1
    (reads-whole _ _ _ _ _ asked.1 (inr (inl refl), tt))

pub returns-in_err-push-clause-err : goal.returns-in_err-push-clause-err
returns-in_err-push-clause-err g c =
    let asked = c.in_ok-old.ensures.ok in
    breaks-memory c.from_residual-in_err-push.result _ _ _ _ c.from_residual-in_err-push.ensures.1
    (reads-whole _ _ _ _ _ asked.1 (inr (inl refl), tt))
