use Rattle.std.proofs.Common.{◌≡◌, ap, refl, subst}
use Rattle.sr_args.specs.declared.call.Command.TheVariants as commands
use Rattle.sr_book.specs.declared.event.Event.{Event}
use Rattle.sr_book.specs.declared.event.Event.TheVariants as events
use Rattle.sr_session.proofs.DeskLemmas.{stray-board}
use Rattle.sr_hub.specs.Line.{ConnectionState}
use Rattle.sr_hub.specs.steps.Telling.{IsRefusedBy}
use Rattle.sr_hub.proofs.MoveLemmas.{answers-board, answers-refused, asks, comes-same}
use Rattle.sr_hub.proofs.StrayLemmas.{board-out}
use Rattle.sr_hub.proofs.answering.answer_board.Goals as goal

pub unreachable-requires : goal.unreachable-requires
unreachable-requires c =
    stray-board c.in-Ok.out c.in-Joined.is (board-out c.args.book.now c.args.moment c.connection.inside.session c.args.key c.args.group c.in-Ok.out c.said.new.book c.in-Ok.ensures.ok)

pub returns-in-Reply-clause-answers : goal.returns-in-Reply-clause-answers
returns-in-Reply-clause-answers c = λ words is.
    let same : events.Board c.connection.inside.session c.args.key c.args.group ≡ events.Board c.args.connection.now.session c.args.key c.args.group =
    ap (λ (line : ConnectionState). events.Board line.session c.args.key c.args.group) c.connection.view_is in
    answers-board words c.args.key c.args.group c.args.book.now c.args.connection.now c.args.moment c.said.new.book c.tell.new.self c.in-Reply.reply is
    (comes-same _ _ _ _ _ _ _ same c.in-Reply.is c.in-Ok.ensures.ok) c.tell.ensures

pub returns-in-Err-clause-answers : goal.returns-in-Err-clause-answers
returns-in-Err-clause-answers c = λ words is.
    let event : Event = events.Board c.args.connection.now.session c.args.key c.args.group in
    let same : events.Board c.connection.inside.session c.args.key c.args.group ≡ event =
    ap (λ (line : ConnectionState). events.Board line.session c.args.key c.args.group) c.connection.view_is in
    answers-refused words (commands.Board c.args.key c.args.group) event c.args.book.now c.args.connection.now c.args.moment c.in-Err.code c.said.new.book c.tell_error.new.self is (asks refl)
    (subst (λ (e : Event). IsRefusedBy c.args.book.now c.args.moment e c.in-Err.code c.said.new.book) same c.in-Err.ensures.err) c.tell_error.ensures
