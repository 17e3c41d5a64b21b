use Rattle.std.proofs.Common.{◌≡◌, [], ap, ◌∙◌, sym, subst}
use Rattle.sr_resp.specs.{Progress}
use Rattle.sr_session.proofs.AskedLemmas.{IsAsked-read}
use Rattle.sr_hub.specs.Line.{ConnectionState, IsLine}
use Rattle.sr_hub.specs.declared.stage.Stage.TheVariants as stages
use Rattle.sr_hub.specs.steps.Moves.{Moves}
use Rattle.sr_hub.proofs.MoveLemmas.{fault-moves, moves-answers, moves-none}
use Rattle.sr_hub.proofs.LineLemmas.{next-held}
use Rattle.sr_hub.proofs.answering.answer_next.Goals as goal

pub returns-then-len-ge-FULL-clause-moves : goal.returns-then-len-ge-FULL-clause-moves
returns-then-len-ge-FULL-clause-moves c =
    subst (λ (l : ConnectionState). Moves c.args.book.now c.args.connection.now c.args.book.now l) (sym c.connection.view_is) (moves-none c.args.book.now c.args.connection.now)

pub returns-in_default-clause-moves : goal.returns-in_default-clause-moves
returns-in_default-clause-moves c =
    let with : Progress → ConnectionState = λ r. record { session = c.connection.inside.session; requests = r; unsent = c.connection.inside.unsent; stage = c.connection.inside.stage } in
    let none = c.in_default.ensures.none in
    let idle : c.connection.inside.stage ≡ stages.Idle = ap (λ (l : ConnectionState). l.stage) c.connection.view_is ∙ c.requires in
    let waits : c.next_request.new.self.waiting ≡ [] = ap (λ (p : Progress). p.waiting) none.1 ∙ none.0 in
    let goes : Moves c.args.book.now (with c.next_request.new.self) c.args.book.now c.tell_fault.new.self =
    fault-moves c.args.book.now (with c.next_request.new.self) c.tell_fault.new.self idle waits c.tell_fault.ensures in
    subst (λ (l : ConnectionState). Moves c.args.book.now l c.args.book.now c.tell_fault.new.self) c.connection.view_is
    (subst (λ (p : Progress). Moves c.args.book.now (with p) c.args.book.now c.tell_fault.new.self) none.1 goes)

pub returns-clause-moves : goal.returns-clause-moves
returns-clause-moves c =
    let with : Progress → ConnectionState = λ r. record { session = c.connection.inside.session; requests = r; unsent = c.connection.inside.unsent; stage = c.connection.inside.stage } in
    let idle : c.connection.inside.stage ≡ stages.Idle = ap (λ (l : ConnectionState). l.stage) c.connection.view_is ∙ c.requires in
    moves-answers c.in-Some.words c.args.book.now c.args.connection.now (with c.next_request.new.self) c.answer_asked.new.book c.answer_asked.new.connection
    (ap (λ (l : ConnectionState). l.session) c.connection.view_is)
    (λ records taken given l.
    next-held records c.args.book.now.server taken given (with c.connection.inside.requests) (subst (IsLine records c.args.book.now.server taken given) (sym c.connection.view_is) l)
    c.in-Some.words c.next_request.new.self idle c.in-Some.ensures.given)
    (c.answer_asked.ensures.answers c.in-Some.words
    (IsAsked-read c.in-Some.words c.read_call-asked.result c.read_call-asked.ensures.ok c.read_call-asked.ensures.err))
