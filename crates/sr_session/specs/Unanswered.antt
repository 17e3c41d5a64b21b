-- Why a command of a session has no reply, and what is known of it then.
-- Source: docs/DEFINITIONS.md, "The one-thread server".

use Rattle.std.specs.Prelude.{◌≡◌, ℕ, Bool, IsTrue, Option, None, Ok, Err}
use Rattle.sr_resp.specs.Reply.{ReplyParts}
use Rattle.sr_args.specs.declared.call.Command.{Command}
use Rattle.sr_book.specs.{BookState}
use Rattle.sr_book.specs.declared.answer.Answer.{Answer}
use Rattle.sr_book.specs.declared.event.Out.TheVariants as outs
use Rattle.sr_session.specs.Answered.{GoesOnToRounds, Replies, first_event}
use Rattle.sr_session.specs.Desk.{IsUnrecorded, StepsAt}
use Rattle.sr_session.specs.Rounds.{BreaksIn}
use Rattle.sr_session.specs.declared.desk.DeskFault.{DeskFault}
use Rattle.sr_session.specs.declared.desk.DeskFault.TheVariants as faults

-- the command is refused; it was answered, but memory is lacking for the reply; it waits, and has no letter; or it is a
-- recovery that broke off in its rounds. Of a desk that shows no book nothing is known
pub data IsUnanswered (may_tell : ℕ → Bool) (session : ℕ) (asked : Command) (old : Option BookState)
    (fault : DeskFault) (new : Option BookState) : Type 0 where
  is_refused : (told : ℕ) → IsTrue (may_tell told) → StepsAt old told (first_event session asked) (Err fault) new
      → IsUnanswered may_tell session asked old fault new
  is_unread : (reply : ReplyParts) → fault ≡ faults.Unread → Replies may_tell session asked old reply new
      → IsUnanswered may_tell session asked old fault new
  waits : (told : ℕ) (answer : Answer) → fault ≡ faults.Idle → IsTrue (may_tell told)
      → StepsAt old told (first_event session asked) (Ok answer) new → answer.out ≡ outs.Blocked
      → IsUnanswered may_tell session asked old fault new
  breaks_off : GoesOnToRounds may_tell session asked old
      (λ apply tries shown middle. BreaksIn may_tell session apply tries shown middle fault new)
      → IsUnrecorded session old new → IsUnanswered may_tell session asked old fault new
  hidden : (told : ℕ) → IsTrue (may_tell told) → old ≡ None → new ≡ None
      → IsUnanswered may_tell session asked old fault new
