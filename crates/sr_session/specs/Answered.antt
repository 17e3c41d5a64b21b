-- What answers a request: one text, that of its refusal or of the reply to its command.
-- Source: RESP2 protocol specification, "Sending commands to a Redis server"; Redis documentation, the pages of the
-- commands; docs/RECOVERY.md.

use Rattle.std.specs.Prelude.{◌≡◌, ℕ, max, List, Bool, true, false, IsTrue, Option, Some, None, Ok, Err}
use Rattle.sr_resp.specs.{Words}
use Rattle.sr_resp.specs.Reply.{ReplyParts, error_reply, reply_text}
use Rattle.sr_resp.specs.declared.code.ErrCode.{ErrCode}
use Rattle.sr_resp.specs.declared.code.ErrCode.TheVariants as errors
use Rattle.sr_args.specs.declared.fault.CallFault.{CallFault}
use Rattle.sr_args.specs.declared.fault.CallFault.TheVariants as faults
use Rattle.sr_args.specs.declared.call.Call.{Call}
use Rattle.sr_args.specs.declared.call.Command.{Command}
use Rattle.sr_args.specs.declared.call.Command.TheVariants as commands
use Rattle.sr_args.specs.{without_block, IsCommand, Refuses}
use Rattle.sr_policy.specs.{SnapshotState}
use Rattle.sr_book.specs.{BookState}
use Rattle.sr_book.specs.declared.answer.Answer.{Answer}
use Rattle.sr_book.specs.declared.answer.Letter.{Letter}
use Rattle.sr_book.specs.declared.event.Event.{Event}
use Rattle.sr_book.specs.declared.event.Event.TheVariants as events
use Rattle.sr_book.specs.declared.event.Out.TheVariants as outs
use Rattle.sr_session.specs.Desk.{AwaitsAt, IsRecorded, IsUnrecorded, StepsAt}
use Rattle.sr_session.specs.Rounds.{BreaksIn, RepliesIn}
use Rattle.sr_session.specs.declared.desk.DeskFault.{DeskFault}
use Rattle.sr_session.specs.declared.desk.DeskFault.TheVariants as desk

-- the error that says why words are not a command
abbrev pub code_of : CallFault → ErrCode
code_of faults.Unknown = errors.Unknown
code_of faults.Arity = errors.Arity
code_of faults.Syntax = errors.Syntax
code_of faults.Number = errors.Number
code_of faults.BadId = errors.BadId
code_of faults.Memory = errors.Memory

-- a command as a session takes it: with BLOCK, or as if BLOCK was not given
abbrev pub taken_as : Bool → Command → Command
taken_as true asked = asked
taken_as false (commands.Call call) = commands.Call (without_block call)
taken_as false (commands.Board key group) = commands.Board key group
taken_as false (commands.Recover apply tries key group dead) = commands.Recover apply tries key group dead

-- the event with which a command begins
abbrev pub first_event : ℕ → Command → Event
first_event session (commands.Call call) = events.Call session call
first_event session (commands.Board key group) = events.Board session key group
first_event session (commands.Recover apply tries key group dead) = events.Snapshot session key group dead

-- a recovery got its first snapshot, and goes on from there to what is said of its rounds: how many it may make, which
-- is at least one, and what they begin with
pub record GoesOnToRounds (may_tell : ℕ → Bool) (session : ℕ) (asked : Command) (old : Option BookState)
    (Then : Bool → ℕ → SnapshotState → Option BookState → Type 0) : Type 0 where
  pub apply : Bool
  pub tries : ℕ
  pub key : List ℕ
  pub group : List ℕ
  pub dead : List (List ℕ)
  pub told : ℕ
  pub answer : Answer
  pub shown : SnapshotState
  pub middle : Option BookState
  pub is : asked ≡ commands.Recover apply tries key group dead
  pub by_clock : IsTrue (may_tell told)
  pub step : StepsAt old told (events.Snapshot session key group dead) (Ok answer) middle
  pub out : answer.out ≡ outs.Snap shown
  pub rounds : Then apply (max tries 1) shown middle

-- a command of a session is answered by this reply: at once, by its letter once it has waited, or after the rounds of a
-- recovery
pub data Replies (may_tell : ℕ → Bool) (session : ℕ) (asked : Command) (old : Option BookState) (reply : ReplyParts)
    (new : Option BookState) : Type 0 where
  at_once : (told : ℕ) (answer : Answer) → IsTrue (may_tell told)
      → StepsAt old told (first_event session asked) (Ok answer) new → answer.out ≡ outs.Reply reply
      → IsRecorded session old reply new → Replies may_tell session asked old reply new
  later : (told : ℕ) (answer : Answer) (middle : Option BookState) (letter : Letter) → IsTrue (may_tell told)
      → StepsAt old told (first_event session asked) (Ok answer) middle → answer.out ≡ outs.Blocked
      → AwaitsAt middle session (Ok letter) new → letter.reply ≡ reply → IsRecorded session old reply new
      → Replies may_tell session asked old reply new
  in_rounds : GoesOnToRounds may_tell session asked old
      (λ apply tries shown middle. RepliesIn may_tell session apply tries shown middle reply new)
      → IsRecorded session old reply new → Replies may_tell session asked old reply new

-- the error that is told of a fault after which the session goes on
abbrev pub told_of : DeskFault → Option ErrCode
told_of desk.Memory = Some errors.Memory
told_of desk.Busy = None
told_of desk.Full = Some errors.Full
told_of desk.NoSession = None
told_of (desk.Regress index) = None
told_of desk.Idle = None
told_of desk.Unread = None

-- the text answers one request: it refuses the words; or no index is left for the command that they are; or it is the
-- reply to it; or a recovery broke off in its rounds, for want of memory or of an index, and the text says so
pub data Answers (may_tell : ℕ → Bool) (blocking : Bool) (session : ℕ) (old : Option BookState) (words : Words)
    (text : List ℕ) (new : Option BookState) : Type 0 where
  refuses : (fault : CallFault) → Refuses words fault → text ≡ reply_text (error_reply (code_of fault)) → new ≡ old
      → Answers may_tell blocking session old words text new
  is_full : (asked : Command) (told : ℕ) → IsCommand words asked → IsTrue (may_tell told)
      → StepsAt old told (first_event session (taken_as blocking asked)) (Err desk.Full) new
      → text ≡ reply_text (error_reply errors.Full) → Answers may_tell blocking session old words text new
  replies : (asked : Command) (reply : ReplyParts) → IsCommand words asked
      → Replies may_tell session (taken_as blocking asked) old reply new → text ≡ reply_text reply
      → Answers may_tell blocking session old words text new
  breaks_off : (asked : Command) (fault : DeskFault) (code : ErrCode) → IsCommand words asked
      → GoesOnToRounds may_tell session (taken_as blocking asked) old
      (λ apply tries shown middle. BreaksIn may_tell session apply tries shown middle fault new)
      → IsUnrecorded session old new → told_of fault ≡ Some code → text ≡ reply_text (error_reply code)
      → Answers may_tell blocking session old words text new

-- one request is held: its call waits, and nothing answers it. Of a desk that shows no book nothing is known
pub data Holds (may_tell : ℕ → Bool) (blocking : Bool) (session : ℕ) (old : Option BookState) (words : Words)
    (new : Option BookState) : Type 0 where
  waits : (call : Call) (told : ℕ) (answer : Answer) → IsCommand words (commands.Call call) → blocking ≡ true
      → IsTrue (may_tell told) → StepsAt old told (events.Call session call) (Ok answer) new
      → answer.out ≡ outs.Blocked → Holds may_tell blocking session old words new
  hidden : old ≡ None → new ≡ None → Holds may_tell blocking session old words new
