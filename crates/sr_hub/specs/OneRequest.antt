-- What the records of the server say of one request of a session: which events it is, and the one reply to it.
-- Source: docs/DEFINITIONS.md, "The one-thread server"; docs/RECOVERY.md.

use Rattle.std.specs.Prelude.{⊤, ◌≡◌, ◌==◌, ◌^◌, ◌+◌, ◌≤◌, ℕ, zero, suc, max, Bool, false, if◌then◌else◌}
use Rattle.std.specs.Prelude.{List, [], ◌∷◌, ◌++◌, length, Option, Some, None}
use Rattle.sr_resp.specs.{Words}
use Rattle.sr_resp.specs.Reply.{ReplyParts, error_reply, reply_text}
use Rattle.sr_resp.specs.declared.code.ErrCode.{ErrCode}
use Rattle.sr_resp.specs.declared.code.ErrCode.TheVariants as errors
use Rattle.sr_args.specs.declared.fault.CallFault.{CallFault}
use Rattle.sr_args.specs.declared.call.Command.{Command}
use Rattle.sr_args.specs.declared.call.Command.TheVariants as commands
use Rattle.sr_args.specs.{IsCommand, Refuses}
use Rattle.sr_space.specs.{in_order}
use Rattle.sr_book.specs.Server.{speaker}
use Rattle.sr_book.specs.{Recorded}
use Rattle.sr_book.specs.Records.{addressed}
use Rattle.sr_book.specs.declared.event.Act.{Act}
use Rattle.sr_book.specs.declared.event.Act.TheVariants as acts
use Rattle.sr_book.specs.declared.event.Event.{Event}
use Rattle.sr_book.specs.declared.event.Event.TheVariants as events
use Rattle.sr_session.specs.{code_of}

-- ---- the events of a session

abbrev pub is_by : ℕ → Option ℕ → Bool
is_by session None = false
is_by session (Some other) = other == session

-- what the session says in a record
abbrev pub said_in : ℕ → Act → List Event
said_in session (acts.Event event) = if is_by session (speaker event) then event ∷ [] else []
said_in session (acts.Serve other) = []

-- the events of the session in records, in their order
abbrev pub spoken : ℕ → List Recorded → List Event
spoken session [] = []
spoken session (first ∷ records) = said_in session first.act ++ spoken session records

-- the session has no event in these records, and they address no reply to it
pub record IsSilent (session : ℕ) (records : List Recorded) : Type 0 where
  pub says_nothing : spoken session records ≡ []
  pub gets_nothing : addressed session records ≡ []

-- ---- the events that a command is

-- a verdict on the group that a recovery names, with its dead, which is carried out exactly if that was asked
abbrev pub IsVerdictOn : ℕ → Bool → List ℕ → List ℕ → List (List ℕ) → Bool → Event → Type 0
IsVerdictOn session apply key group dead final (events.Conclude other judged applied last) =
    (other ≡ session) × (applied ≡ apply) × (last ≡ final) × (judged.snapshot.key ≡ key)
    × (judged.snapshot.group ≡ group) × (judged.snapshot.dead ≡ in_order dead)
IsVerdictOn session apply key group dead final event = ⊥

-- at most this many rounds, each a verdict, of which only the last that there may be is said to be the last
abbrev pub AreRounds : ℕ → Bool → List ℕ → List ℕ → List (List ℕ) → ℕ → List Event → Type 0
AreRounds session apply key group dead rounds [] = ⊤
AreRounds session apply key group dead zero (event ∷ said) = ⊥
AreRounds session apply key group dead (suc rounds) (event ∷ said) =
    IsVerdictOn session apply key group dead (rounds == 0) event
    × AreRounds session apply key group dead rounds said

-- a call or a board is one event; a recovery is a snapshot and then verdicts, at most as many as it may make rounds
abbrev pub AreOf : ℕ → Command → List Event → Type 0
AreOf session (commands.Call call) said = said ≡ events.Call session call ∷ []
AreOf session (commands.Board key group) said = said ≡ events.Board session key group ∷ []
AreOf session (commands.Recover apply tries key group dead) said =
    (verdicts : List Event) × (said ≡ events.Snapshot session key group dead ∷ verdicts)
    × AreRounds session apply key group dead (max tries 1) verdicts

-- ---- one request

-- how a recovery that has no reply is answered: memory is lacking, or no index is left after this many records
pub data IsBroken (code : ErrCode) (records : ℕ) : Type 0 where
  lacks_memory : code ≡ errors.Memory → IsBroken code records
  lacks_index : code ≡ errors.Full → 2 ^ 63 ≤ records + 1 → IsBroken code records

-- the records of the server grow from old to new while one request of the session is answered by this text. It refuses
-- the words, or says that no index is left for their event, and then nothing of the session was recorded. Or it is the
-- one reply that was recorded for it, to exactly the events that its command is. Or a recovery broke off in its rounds,
-- and no reply was recorded. What other sessions did in the same time is recorded too
pub data IsAnsweredInRecords (session : ℕ) (old : List Recorded) (words : Words) (text : List ℕ)
    (new : List Recorded) : Type 0 where
  refused : (fault : CallFault) (more : List Recorded) → Refuses words fault
      → text ≡ reply_text (error_reply (code_of fault)) → new ≡ old ++ more → IsSilent session more
      → IsAnsweredInRecords session old words text new
  is_full : (asked : Command) (more : List Recorded) → IsCommand words asked → 2 ^ 63 ≤ length new + 1
      → text ≡ reply_text (error_reply errors.Full) → new ≡ old ++ more → IsSilent session more
      → IsAnsweredInRecords session old words text new
  replied : (asked : Command) (reply : ReplyParts) (more : List Recorded) → IsCommand words asked
      → text ≡ reply_text reply → new ≡ old ++ more → AreOf session asked (spoken session more)
      → addressed session more ≡ reply ∷ [] → IsAnsweredInRecords session old words text new
  broke_off : (apply : Bool) (tries : ℕ) (key group : List ℕ) (dead : List (List ℕ)) (code : ErrCode)
      (more : List Recorded) → IsCommand words (commands.Recover apply tries key group dead)
      → IsBroken code (length new) → text ≡ reply_text (error_reply code) → new ≡ old ++ more
      → AreOf session (commands.Recover apply tries key group dead) (spoken session more)
      → addressed session more ≡ [] → IsAnsweredInRecords session old words text new
