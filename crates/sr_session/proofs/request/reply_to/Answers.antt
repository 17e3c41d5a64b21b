use Rattle.std.proofs.Common.{refl}
use Rattle.sr_session.specs.Answered.{replies}
use Rattle.sr_session.proofs.DeskLemmas.{fault-answers, fault-idle, fault-over}
use Rattle.sr_session.proofs.request.reply_to.Goals as goal

pub returns-in-Ok-clause-ok : goal.returns-in-Ok-clause-ok
returns-in-Ok-clause-ok g c = λ words is_asked.
    replies c.args.command c.in-Ok.reply is_asked (rw c.taken-taken.ensures at c.in-Ok.ensures.ok) refl

pub returns-in-Err-clause-ok : goal.returns-in-Err-clause-ok
returns-in-Err-clause-ok g c =
    fault-answers _ c.args.blocking c.args.session c.args.command _ _ c.reply_to_fault.result c.in-Err.fault c.reply_to_fault.ensures.made (rw c.taken-taken.ensures at c.in-Err.ensures.err)

pub returns-in-Err-clause-idle : goal.returns-in-Err-clause-idle
returns-in-Err-clause-idle g c =
    fault-idle _ c.args.blocking c.args.session c.args.command _ _ c.reply_to_fault.result c.in-Err.fault c.reply_to_fault.ensures.made (rw c.taken-taken.ensures at c.in-Err.ensures.err) c.requires

pub returns-in-Err-clause-err : goal.returns-in-Err-clause-err
returns-in-Err-clause-err g c =
    fault-over _ c.args.blocking c.args.session c.args.command _ _ c.reply_to_fault.result c.in-Err.fault c.reply_to_fault.ensures.made (rw c.taken-taken.ensures at c.in-Err.ensures.err) c.requires
