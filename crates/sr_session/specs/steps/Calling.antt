-- Cited by private clauses alone: how a call at a desk comes out, and a reply that is not there.

use Rattle.std.specs.Prelude.{◌≡◌, ℕ, List, ◌++◌, Bool, IsTrue, Option, Some, None, Result, Ok, Err}
use Rattle.sr_resp.specs.{Words}
use Rattle.sr_resp.specs.Reply.{ReplyParts, error_reply}
use Rattle.sr_resp.specs.declared.code.ErrCode.TheVariants as errors
use Rattle.sr_book.specs.{BookState, Recorded}
use Rattle.sr_book.specs.Records.{addressed}
use Rattle.sr_book.specs.declared.answer.Answer.{Answer}
use Rattle.sr_book.specs.declared.answer.Letter.{Letter}
use Rattle.sr_book.specs.declared.event.BookFault.{BookFault}
use Rattle.sr_book.specs.declared.event.BookFault.TheVariants as book
use Rattle.sr_book.specs.declared.event.Event.TheVariants as events
use Rattle.sr_session.specs.Desk.{AwaitsAt, StepsAt}
use Rattle.sr_session.specs.Whole.{EndsUnjoined}
use Rattle.sr_session.specs.declared.desk.DeskFault.{DeskFault}
use Rattle.sr_session.specs.declared.desk.DeskFault.TheVariants as faults
use Rattle.sr_session.specs.declared.run.End.{End}
use Rattle.sr_session.specs.declared.run.End.TheVariants as ends

-- why a book refuses an event, as a desk gives it
abbrev pub fault_of : BookFault → DeskFault
fault_of book.Memory = faults.Memory
fault_of book.Busy = faults.Busy
fault_of book.Full = faults.Full
fault_of book.NoSession = faults.NoSession

-- a session that waited gets no reply: its letter cannot be read, or it has none
pub data Loses (session : ℕ) (old : Option BookState) (fault : DeskFault) (new : Option BookState) : Type 0 where
  unread : (letter : Letter) → fault ≡ faults.Unread → AwaitsAt old session (Ok letter) new
      → Loses session old fault new
  idle : fault ≡ faults.Idle → new ≡ old → Loses session old fault new
  hidden : old ≡ None → new ≡ None → Loses session old fault new

-- what a session makes of a fault of a call: a reply, or its end
abbrev pub made_of : DeskFault → Result ReplyParts End
made_of faults.Memory = Ok (error_reply errors.Memory)
made_of faults.Busy = Err ends.Desk
made_of faults.Full = Ok (error_reply errors.Full)
made_of faults.NoSession = Err ends.Desk
made_of (faults.Regress index) = Err ends.Desk
made_of faults.Idle = Err ends.Desk
made_of faults.Unread = Err ends.Memory

-- a session cannot join, and ends so
pub record FailsToJoin (may_tell : ℕ → Bool) (old : Option BookState) (end : End)
    (new : Option BookState) : Type 0 where
  pub told : ℕ
  pub result : Result Answer DeskFault
  pub by_clock : IsTrue (may_tell told)
  pub step : StepsAt old told events.Join result new
  pub unjoined : EndsUnjoined result end

-- an end that a desk brings
abbrev pub IsDeskEnd : End → Type 0
IsDeskEnd ends.Closed = ⊥
IsDeskEnd ends.Protocol = ⊥
IsDeskEnd ends.ReadFault = ⊥
IsDeskEnd (ends.SendFault sent) = ⊥
IsDeskEnd ends.Turns = ⊥
IsDeskEnd ends.Memory = Unit {0}
IsDeskEnd ends.Desk = Unit {0}

-- no answer to a request is gathered, and the session ends: it was carried out and its reply is lost, or it is held
pub data Fails {S : Type 0} (Answers : S → Words → List ℕ → S → Type 0)
    (Holds : S → Words → S → Type 0) (before : S) (words : Words) (end : End) (after : S) : Type 0 where
  unread : (text : List ℕ) → Answers before words text after → end ≡ ends.Memory
      → Fails Answers Holds before words end after
  held : Holds before words after → end ≡ ends.Desk → Fails Answers Holds before words end after

-- where the book is shown: records were added, and these are the replies to the session in them
abbrev pub Adds : ℕ → Option BookState → List ReplyParts → Option BookState → Type 0
Adds session None replies new = new ≡ None
Adds session (Some old) replies None = ⊥
Adds session (Some old) replies (Some new) =
    (more : List Recorded) × (new.records ≡ old.records ++ more) × (addressed session more ≡ replies)
