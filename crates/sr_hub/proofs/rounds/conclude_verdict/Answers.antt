use Rattle.std.proofs.Common.{◌≡◌, ◌==◌, ◌∙◌, ◌-◌, suc, ap, arith, subst, sym}
use Rattle.sr_policy.specs.{SnapshotState}
use Rattle.sr_book.specs.declared.event.Event.{Event}
use Rattle.sr_book.specs.declared.event.Event.TheVariants as events
use Rattle.sr_book.specs.declared.event.Out.TheVariants as outs
use Rattle.sr_hub.specs.Line.{ConnectionState}
use Rattle.sr_hub.specs.steps.Telling.{IsRefusedBy}
use Rattle.sr_hub.proofs.MoveLemmas.{comes-same, concluded-refused, concluded-replied, concluded-stale, some-later, tells-from}
use Rattle.sr_hub.proofs.StrayLemmas.{IsConcludeOut, conclude-out, stray-conclude}
use Rattle.sr_hub.proofs.rounds.conclude_verdict.Goals as goal

pub unreachable-requires : goal.unreachable-requires
unreachable-requires c =
    stray-conclude (c.args.round.later == 0) c.in-Ok.out c.in-Joined.is
    (conclude-out c.args.book.now c.args.moment c.connection.inside.session c.args.verdict c.args.round.apply (c.args.round.later == 0) c.in-Ok.out c.said.new.book c.in-Ok.ensures.ok)

pub overflow_sub-fewer : goal.overflow_sub-fewer
overflow_sub-fewer c =
    some-later c.args.round.later (subst (IsConcludeOut (c.args.round.later == 0)) c.in-Stale.is
    (conclude-out c.args.book.now c.args.moment c.connection.inside.session c.args.verdict c.args.round.apply (c.args.round.later == 0) c.in-Ok.out c.said.new.book c.in-Ok.ensures.ok))

pub returns-in-Reply-clause-moves : goal.returns-in-Reply-clause-moves
returns-in-Reply-clause-moves c = λ stage concludes.
    let line : ConnectionState = record c.args.connection.now { stage = stage } in
    let same : events.Conclude c.connection.inside.session c.args.verdict c.args.round.apply (c.args.round.later == 0) ≡ events.Conclude line.session c.args.verdict c.args.round.apply (c.args.round.later == 0) =
    ap (λ (l : ConnectionState). events.Conclude l.session c.args.verdict c.args.round.apply (c.args.round.later == 0)) c.connection.view_is in
    concluded-replied c.args.book.now line c.args.moment c.said.new.book c.tell.new.self c.args.verdict c.args.round.apply c.args.round.later concludes c.in-Reply.reply
    (comes-same _ _ _ _ _ _ _ same c.in-Reply.is c.in-Ok.ensures.ok) (tells-from _ c.args.connection.now.stage stage c.args.connection.now c.tell.new.self c.tell.ensures)

pub returns-in-Stale-clause-moves : goal.returns-in-Stale-clause-moves
returns-in-Stale-clause-moves c = λ stage concludes.
    let line : ConnectionState = record c.args.connection.now { stage = stage } in
    let same : events.Conclude c.connection.inside.session c.args.verdict c.args.round.apply (c.args.round.later == 0) ≡ events.Conclude line.session c.args.verdict c.args.round.apply (c.args.round.later == 0) =
    ap (λ (l : ConnectionState). events.Conclude l.session c.args.verdict c.args.round.apply (c.args.round.later == 0)) c.connection.view_is in
    let comes = conclude-out c.args.book.now c.args.moment c.connection.inside.session c.args.verdict c.args.round.apply (c.args.round.later == 0) c.in-Ok.out c.said.new.book c.in-Ok.ensures.ok in
    let some = some-later c.args.round.later (subst (IsConcludeOut (c.args.round.later == 0)) c.in-Stale.is comes) in
    let less : suc (c.args.round.later - 1) ≡ c.args.round.later = omega (arith, some) in
    concluded-stale c.args.book.now line c.args.moment c.said.new.book c.pass_to.new.self c.args.verdict c.args.round.apply c.args.round.later concludes c.keep.result (c.args.round.later - 1) less
    (comes-same _ _ _ _ _ _ _ same (c.in-Stale.is ∙ ap (λ (shown : SnapshotState). outs.Stale shown) (sym c.keep.ensures)) c.in-Ok.ensures.ok) c.pass_to.ensures

pub returns-in-Err-clause-moves : goal.returns-in-Err-clause-moves
returns-in-Err-clause-moves c = λ stage concludes.
    let line : ConnectionState = record c.args.connection.now { stage = stage } in
    let event : Event = events.Conclude line.session c.args.verdict c.args.round.apply (c.args.round.later == 0) in
    let same : events.Conclude c.connection.inside.session c.args.verdict c.args.round.apply (c.args.round.later == 0) ≡ event =
    ap (λ (l : ConnectionState). events.Conclude l.session c.args.verdict c.args.round.apply (c.args.round.later == 0)) c.connection.view_is in
    concluded-refused c.args.book.now line c.args.moment c.said.new.book c.tell_error.new.self c.args.verdict c.args.round.apply c.args.round.later concludes c.in-Err.code
    (subst (λ (e : Event). IsRefusedBy c.args.book.now c.args.moment e c.in-Err.code c.said.new.book) same c.in-Err.ensures.err)
    (tells-from _ c.args.connection.now.stage stage c.args.connection.now c.tell_error.new.self c.tell_error.ensures)
