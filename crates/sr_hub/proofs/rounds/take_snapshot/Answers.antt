use Rattle.std.proofs.Common.{◌≡◌, ◌∙◌, ◌-◌, suc, max, ap, arith, refl, subst, sym}
use Rattle.sr_policy.specs.{SnapshotState}
use Rattle.sr_book.specs.declared.event.Event.{Event}
use Rattle.sr_book.specs.declared.event.Event.TheVariants as events
use Rattle.sr_book.specs.declared.event.Out.TheVariants as outs
use Rattle.sr_session.proofs.DeskLemmas.{stray-recovery}
use Rattle.sr_hub.specs.Line.{ConnectionState}
use Rattle.sr_hub.specs.declared.stage.Judging.{Judging}
use Rattle.sr_hub.specs.steps.Telling.{IsRefusedBy}
use Rattle.sr_hub.proofs.MoveLemmas.{comes-same, recovers-refused, recovers-replied, recovers-snapped}
use Rattle.sr_hub.proofs.StrayLemmas.{snapshot-out}
use Rattle.sr_hub.proofs.rounds.take_snapshot.Goals as goal

pub unreachable-requires : goal.unreachable-requires
unreachable-requires c =
    stray-recovery c.in-Ok.out c.in-Joined.is (snapshot-out c.args.book.now c.args.moment c.connection.inside.session c.args.recovery.key c.args.recovery.group c.args.recovery.dead c.in-Ok.out c.said.new.book c.in-Ok.ensures.ok)

pub returns-in-Reply-clause-answers : goal.returns-in-Reply-clause-answers
returns-in-Reply-clause-answers c =
    let r = c.args.recovery in
    let same : events.Snapshot c.connection.inside.session r.key r.group r.dead ≡ events.Snapshot c.args.connection.now.session r.key r.group r.dead =
    ap (λ (line : ConnectionState). events.Snapshot line.session r.key r.group r.dead) c.connection.view_is in
    recovers-replied r.apply r.tries r.key r.group r.dead c.args.book.now c.args.connection.now c.args.moment c.said.new.book c.tell.new.self c.in-Reply.reply
    (comes-same _ _ _ _ _ _ _ same c.in-Reply.is c.in-Ok.ensures.ok) c.tell.ensures

pub returns-in-Snap-clause-answers : goal.returns-in-Snap-clause-answers
returns-in-Snap-clause-answers c =
    let r = c.args.recovery in
    let same : events.Snapshot c.connection.inside.session r.key r.group r.dead ≡ events.Snapshot c.args.connection.now.session r.key r.group r.dead =
    ap (λ (line : ConnectionState). events.Snapshot line.session r.key r.group r.dead) c.connection.view_is in
    let judging : Judging = record { apply = r.apply; later = c.max-later.result - 1; snapshot = c.keep.result } in
    let later : suc (c.max-later.result - 1) ≡ max r.tries 1 = omega (arith, c.max-later.ensures) in
    recovers-snapped r.apply r.tries r.key r.group r.dead c.args.book.now c.args.connection.now c.args.moment c.said.new.book c.pass_to.new.self judging
    (comes-same _ _ _ _ _ _ _ same (c.in-Snap.is ∙ ap (λ (shown : SnapshotState). outs.Snap shown) (sym c.keep.ensures)) c.in-Ok.ensures.ok) refl later c.pass_to.ensures

pub returns-in-Err-clause-answers : goal.returns-in-Err-clause-answers
returns-in-Err-clause-answers c =
    let r = c.args.recovery in
    let event : Event = events.Snapshot c.args.connection.now.session r.key r.group r.dead in
    let same : events.Snapshot c.connection.inside.session r.key r.group r.dead ≡ event =
    ap (λ (line : ConnectionState). events.Snapshot line.session r.key r.group r.dead) c.connection.view_is in
    recovers-refused r.apply r.tries r.key r.group r.dead c.args.book.now c.args.connection.now c.args.moment c.said.new.book c.tell_error.new.self c.in-Err.code
    (subst (λ (e : Event). IsRefusedBy c.args.book.now c.args.moment e c.in-Err.code c.said.new.book) same c.in-Err.ensures.err) c.tell_error.ensures
