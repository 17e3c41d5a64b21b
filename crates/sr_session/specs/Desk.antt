-- What an event does at a desk that shows its book, and what little is known at one that shows none.
-- Source: Redis documentation, the pages of the commands; docs/DEFINITIONS.md, "The one-thread server".

use Rattle.std.specs.Prelude.{⊤, ◌≡◌, ℕ, true, false, List, [], ◌∷◌, drop, length, Option, Some, None, IsSome, Result}
use Rattle.std.specs.Prelude.{Ok, Err}
use Rattle.sr_resp.specs.Reply.{ReplyParts}
use Rattle.sr_waiters.specs.{has_session}
use Rattle.sr_book.specs.{is_open, BookState, letter_for}
use Rattle.sr_book.specs.Records.{Steps, addressed}
use Rattle.sr_book.specs.declared.answer.Answer.{Answer}
use Rattle.sr_book.specs.declared.answer.Letter.{Letter}
use Rattle.sr_book.specs.declared.event.BookFault.TheVariants as book
use Rattle.sr_book.specs.declared.event.Event.{Event}
use Rattle.sr_session.specs.declared.desk.DeskFault.{DeskFault}
use Rattle.sr_session.specs.declared.desk.DeskFault.TheVariants as faults

-- an event at a moment that is handed in: what the book makes of it. A desk that shows its book refuses an event for
-- the book's reasons alone
abbrev pub StepsTo : BookState → ℕ → Event → Result Answer DeskFault → BookState → Type 0
StepsTo old told event (Ok answer) new = Steps old told event (Ok answer) new
StepsTo old told event (Err faults.Memory) new = Steps old told event (Err book.Memory) new
StepsTo old told event (Err faults.Busy) new = Steps old told event (Err book.Busy) new
StepsTo old told event (Err faults.Full) new = Steps old told event (Err book.Full) new
StepsTo old told event (Err faults.NoSession) new = Steps old told event (Err book.NoSession) new
StepsTo old told event (Err (faults.Regress index)) new = ⊥
StepsTo old told event (Err faults.Idle) new = ⊥
StepsTo old told event (Err faults.Unread) new = ⊥

-- the same of what a desk shows; one that shows nothing goes on showing nothing
abbrev pub StepsAt : Option BookState → ℕ → Event → Result Answer DeskFault → Option BookState → Type 0
StepsAt None told event result new = new ≡ None
StepsAt (Some old) told event result None = ⊥
StepsAt (Some old) told event result (Some new) = StepsTo old told event result new

-- what a session that waited was given: its letter. Idle says that there is none, and memory is wanted for one that is
-- there
abbrev pub AwaitsTo : BookState → ℕ → Result Letter DeskFault → Type 0
AwaitsTo state session (Ok letter) = letter_for session state.server ≡ Some letter
AwaitsTo state session (Err faults.Memory) = IsSome (letter_for session state.server)
AwaitsTo state session (Err faults.Busy) = ⊥
AwaitsTo state session (Err faults.Full) = ⊥
AwaitsTo state session (Err faults.NoSession) = ⊥
AwaitsTo state session (Err (faults.Regress index)) = ⊥
AwaitsTo state session (Err faults.Idle) = letter_for session state.server ≡ None
AwaitsTo state session (Err faults.Unread) = ⊥

-- the same of what a desk shows, which stays
abbrev pub AwaitsAt : Option BookState → ℕ → Result Letter DeskFault → Option BookState → Type 0
AwaitsAt None session result new = new ≡ None
AwaitsAt (Some old) session result new = AwaitsTo old session result × (new ≡ Some old)

-- the session may call: where the book is shown, the session is open and does not wait
abbrev pub IsIdle : ℕ → Option BookState → Type 0
IsIdle session None = ⊤
IsIdle session (Some state) =
    (is_open session state.server.sessions ≡ true) × (has_session session state.server.waiting ≡ false)

-- where the book is shown: these are the replies to the session in the records that were added
abbrev pub AreRecorded : ℕ → Option BookState → List ReplyParts → Option BookState → Type 0
AreRecorded session None replies new = ⊤
AreRecorded session (Some old) replies None = ⊥
AreRecorded session (Some old) replies (Some new) = addressed session (drop (length old.records) new.records) ≡ replies

-- this is the one reply to it there
abbrev pub IsRecorded : ℕ → Option BookState → ReplyParts → Option BookState → Type 0
IsRecorded session old reply new = AreRecorded session old (reply ∷ []) new

-- there is none
abbrev pub IsUnrecorded : ℕ → Option BookState → Option BookState → Type 0
IsUnrecorded session old new = AreRecorded session old [] new
