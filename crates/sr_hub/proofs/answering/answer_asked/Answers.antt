use Rattle.std.proofs.Common.{subst}
use Rattle.sr_resp.specs.{error_reply, reply_text}
use Rattle.sr_resp.specs.declared.code.ErrCode.{ErrCode}
use Rattle.sr_session.specs.steps.Asked.{IsAsked}
use Rattle.sr_hub.specs.steps.Telling.{Tells}
use Rattle.sr_hub.proofs.MoveLemmas.{answers-fault}
use Rattle.sr_hub.proofs.answering.answer_asked.Goals as goal

pub returns-in-Err-clause-answers : goal.returns-in-Err-clause-answers
returns-in-Err-clause-answers c = λ words is.
    answers-fault words c.in-Err.fault c.args.book.now c.args.connection.now c.tell_error.new.self (subst (IsAsked words) c.in-Err.is is)
    (subst (λ (code : ErrCode). Tells (reply_text (error_reply code)) c.args.connection.now c.tell_error.new.self) c.code_of_fault.ensures c.tell_error.ensures)
