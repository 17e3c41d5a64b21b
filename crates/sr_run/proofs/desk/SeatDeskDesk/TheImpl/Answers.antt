use Rattle.std.proofs.Common.{◌≡◌, ℕ, Result, Ok, Err, None, IfOk, refl}
use Rattle.sr_book.specs.declared.answer.Answer.{Answer}
use Rattle.sr_book.specs.declared.event.Event.{Event}
use Rattle.sr_book.specs.declared.event.Event.TheVariants as events
use Rattle.sr_book.specs.declared.event.Out.TheVariants as outs
use Rattle.sr_session.specs.Desk.{IsIdle}
use Rattle.sr_session.specs.declared.desk.DeskFault.{DeskFault}
use Rattle.sr_run.proofs.desk.SeatDeskDesk.TheImpl.Goals as goal

-- where no book is shown, a session that joined may call
joined_is_idle : (event : Event) (result : Result Answer DeskFault) → IfOk result (λ answer. (session : ℕ) → event ≡ events.Join → answer.out ≡ outs.Joined session → IsIdle session None)
joined_is_idle event (Ok answer) = λ session joins out. tt
joined_is_idle event (Err fault) = tt

pub step-tells : goal.step-tells
step-tells g c = record { step = refl; joined = joined_is_idle c.args.event c.result; same = c.ensures.same }
