-- A whole session at a desk: it joins, answers the requests of the bytes taken, and leaves.
-- Source: RESP2 protocol specification, "Sending commands to a Redis server"; docs/DEFINITIONS.md, "The one-thread
-- server".

use Rattle.std.specs.Prelude.{◌≡◌, ◌≢◌, ℕ, List, [], Bool, true, false, IsTrue, Option, Result, Ok, Err}
use Rattle.sr_book.specs.{BookState}
use Rattle.sr_book.specs.declared.answer.Answer.{Answer}
use Rattle.sr_book.specs.declared.event.Event.TheVariants as events
use Rattle.sr_book.specs.declared.event.Out.TheVariants as outs
use Rattle.sr_session.specs.Answered.{Answers, Holds}
use Rattle.sr_session.specs.Desk.{StepsAt}
use Rattle.sr_session.specs.Session.{EndsAs}
use Rattle.sr_session.specs.declared.desk.DeskFault.{DeskFault}
use Rattle.sr_session.specs.declared.desk.DeskFault.TheVariants as faults
use Rattle.sr_session.specs.declared.run.End.{End}
use Rattle.sr_session.specs.declared.run.End.TheVariants as ends
use Rattle.sr_session.specs.declared.run.Ended.{Ended}

-- the session opens, and this is its number
pub record HasJoined (may_tell : ℕ → Bool) (session : ℕ) (old new : Option BookState) : Type 0 where
  pub told : ℕ
  pub answer : Answer
  pub by_clock : IsTrue (may_tell told)
  pub step : StepsAt old told events.Join (Ok answer) new
  pub number : answer.out ≡ outs.Joined session

-- how a session ends that could not join: for want of memory, or with its desk's fault
abbrev pub EndsUnjoined : Result Answer DeskFault → End → Type 0
EndsUnjoined (Ok answer) end = ((session : ℕ) → answer.out ≢ outs.Joined session) × (end ≡ ends.Desk)
EndsUnjoined (Err faults.Memory) end = end ≡ ends.Memory
EndsUnjoined (Err faults.Busy) end = end ≡ ends.Desk
EndsUnjoined (Err faults.Full) end = end ≡ ends.Desk
EndsUnjoined (Err faults.NoSession) end = end ≡ ends.Desk
EndsUnjoined (Err (faults.Regress index)) end = end ≡ ends.Desk
EndsUnjoined (Err faults.Idle) end = end ≡ ends.Desk
EndsUnjoined (Err faults.Unread) end = end ≡ ends.Desk

-- whether an event was carried out
abbrev pub is_done : Result Answer DeskFault → Bool
is_done (Ok answer) = true
is_done (Err fault) = false

-- the session closes, or that is refused
pub record HasLeft (may_tell : ℕ → Bool) (session : ℕ) (left : Bool) (old new : Option BookState) : Type 0 where
  pub told : ℕ
  pub result : Result Answer DeskFault
  pub by_clock : IsTrue (may_tell told)
  pub step : StepsAt old told (events.Leave session) result new
  pub done : left ≡ is_done result

-- a session for which these bytes were taken and written: it joins, ends as it does, and leaves at every end; or it
-- cannot join, and nothing is taken and written
pub data RunsAs (may_tell : ℕ → Bool) (blocking : Bool) (old : Option BookState) (taken written : List ℕ)
    (ended : Ended) (new : Option BookState) : Type 0 where
  joins : (session : ℕ) (joined last : Option BookState) → HasJoined may_tell session old joined
      → EndsAs (Answers may_tell blocking session) (Holds may_tell blocking session) joined taken written last
      ended.end → HasLeft may_tell session ended.left last new → RunsAs may_tell blocking old taken written ended new
  joins_not : (told : ℕ) (result : Result Answer DeskFault) → IsTrue (may_tell told)
      → StepsAt old told events.Join result new → EndsUnjoined result ended.end → taken ≡ [] → written ≡ []
      → ended.left ≡ false → RunsAs may_tell blocking old taken written ended new
