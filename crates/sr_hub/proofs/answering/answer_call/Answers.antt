use Rattle.std.proofs.Common.{◌≡◌, ap, refl, subst}
use Rattle.sr_args.specs.declared.call.Command.TheVariants as commands
use Rattle.sr_book.specs.declared.event.Event.{Event}
use Rattle.sr_book.specs.declared.event.Event.TheVariants as events
use Rattle.sr_session.proofs.DeskLemmas.{stray-call}
use Rattle.sr_hub.specs.Line.{ConnectionState}
use Rattle.sr_hub.specs.steps.Telling.{IsRefusedBy}
use Rattle.sr_hub.proofs.MoveLemmas.{answers-blocked, answers-call, answers-refused, calls, comes-same}
use Rattle.sr_hub.proofs.StrayLemmas.{call-out}
use Rattle.sr_hub.proofs.answering.answer_call.Goals as goal

pub unreachable-requires : goal.unreachable-requires
unreachable-requires c = stray-call c.in-Ok.out c.in-Joined.is (call-out c.args.book.now c.args.moment c.connection.inside.session c.args.call c.in-Ok.out c.said.new.book c.in-Ok.ensures.ok)

pub returns-in-Reply-clause-answers : goal.returns-in-Reply-clause-answers
returns-in-Reply-clause-answers c = λ words is.
    let same : events.Call c.connection.inside.session c.args.call ≡ events.Call c.args.connection.now.session c.args.call =
    ap (λ (line : ConnectionState). events.Call line.session c.args.call) c.connection.view_is in
    answers-call words c.args.call c.args.book.now c.args.connection.now c.args.moment c.said.new.book c.tell.new.self c.in-Reply.reply is
    (comes-same _ _ _ _ _ _ _ same c.in-Reply.is c.in-Ok.ensures.ok) c.tell.ensures

pub returns-in-Blocked-clause-answers : goal.returns-in-Blocked-clause-answers
returns-in-Blocked-clause-answers c = λ words is.
    let same : events.Call c.connection.inside.session c.args.call ≡ events.Call c.args.connection.now.session c.args.call =
    ap (λ (line : ConnectionState). events.Call line.session c.args.call) c.connection.view_is in
    answers-blocked words c.args.call c.args.book.now c.args.connection.now c.args.moment c.said.new.book c.pass_to.new.self is
    (comes-same _ _ _ _ _ _ _ same c.in-Blocked.is c.in-Ok.ensures.ok) c.pass_to.ensures

pub returns-in-Err-clause-answers : goal.returns-in-Err-clause-answers
returns-in-Err-clause-answers c = λ words is.
    let event : Event = events.Call c.args.connection.now.session c.args.call in
    let same : events.Call c.connection.inside.session c.args.call ≡ event =
    ap (λ (line : ConnectionState). events.Call line.session c.args.call) c.connection.view_is in
    answers-refused words (commands.Call c.args.call) event c.args.book.now c.args.connection.now c.args.moment c.in-Err.code c.said.new.book c.tell_error.new.self is (calls c.args.call refl)
    (subst (λ (e : Event). IsRefusedBy c.args.book.now c.args.moment e c.in-Err.code c.said.new.book) same c.in-Err.ensures.err) c.tell_error.ensures
