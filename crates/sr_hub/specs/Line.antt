-- One connection: the texts of its requests so far, by the records of the server, and what it is doing.
-- Source: RESP2 protocol specification, "Sending commands to a Redis server" and "Multiple commands and pipelining".

use Rattle.std.specs.Prelude.{⊤, ◌≡◌, ◌⊎◌, ◌+◌, ◌<◌, ◌≤◌, ℕ, suc, max, Bool, true, false, List, [], ◌∷◌, ◌++◌, length}
use Rattle.std.specs.Prelude.{Option, Some, None}
use Rattle.sr_resp.specs.{Words, Progress}
use Rattle.sr_resp.specs.Stream.{Stands}
use Rattle.sr_args.specs.declared.call.Call.{Call}
use Rattle.sr_args.specs.declared.call.Command.{Command}
use Rattle.sr_args.specs.declared.call.Command.TheVariants as commands
use Rattle.sr_args.specs.{IsCommand}
use Rattle.sr_policy.specs.{SnapshotState}
use Rattle.sr_space.specs.{in_order}
use Rattle.sr_waiters.specs.{has_session}
use Rattle.sr_book.specs.{Given, is_open, letter_of, Recorded}
use Rattle.sr_book.specs.Server.{Server}
use Rattle.sr_book.specs.Records.{addressed}
use Rattle.sr_book.specs.declared.event.Act.TheVariants as acts
use Rattle.sr_book.specs.declared.event.Event.{Event}
use Rattle.sr_book.specs.declared.event.Event.TheVariants as events
use Rattle.sr_session.specs.{AreAnswered, protocol_text}
use Rattle.sr_hub.specs.declared.stage.Judging.{Judging}
use Rattle.sr_hub.specs.declared.stage.Recovery.{Recovery}
use Rattle.sr_hub.specs.declared.stage.Stage.{Stage}
use Rattle.sr_hub.specs.declared.stage.Stage.TheVariants as stages
use Rattle.sr_hub.specs.OneRequest.{AreOf, AreRounds, IsAnsweredInRecords, IsSilent, spoken}

-- ---- what contracts see

-- what contracts see of a connection: its session, the requests that it has read, the bytes that are to be sent, and
-- what it does
pub record ConnectionState : Type 0 where
  pub session : ℕ
  pub requests : Progress
  pub unsent : List ℕ
  pub stage : Stage

-- ---- what is known of it

-- the records up to that with which the session joined
pub record IsJoined (session : ℕ) (records : List Recorded) : Type 0 where
  pub before : List Recorded
  pub join : Recorded
  pub ends : records ≡ before ++ join ∷ []
  pub is : join.act ≡ acts.Event events.Join
  pub number : join.index ≡ session

-- the session is open and does not wait
pub record IsFree (session : ℕ) (server : Server) : Type 0 where
  pub opened : is_open session server.sessions ≡ true
  pub absent : has_session session server.waiting ≡ false

-- the one request that is held is a call, which is the session's one event since the request before it; it waits, and
-- nothing was addressed to it, or it has the one reply that was
pub record IsWaitingFor (session : ℕ) (server : Server) (more : List Recorded) (held : List Words) : Type 0 where
  pub words : Words
  pub call : Call
  pub one : held ≡ words ∷ []
  pub is : IsCommand words (commands.Call call)
  pub said : spoken session more ≡ events.Call session call ∷ []
  pub opened : is_open session server.sessions ≡ true
  pub stands : ((has_session session server.waiting ≡ true) × (addressed session more ≡ []))
      ⊎ ((given : Given) × (has_session session server.waiting ≡ false)
      × (letter_of session server.sessions ≡ Some given) × (addressed session more ≡ given.reply ∷ []))

-- the one request that is held is a recovery, and nothing of the session is recorded since the request before it
pub record IsAskingFor (session : ℕ) (server : Server) (more : List Recorded) (held : List Words)
    (asked : Recovery) : Type 0 where
  pub words : Words
  pub one : held ≡ words ∷ []
  pub is : IsCommand words (commands.Recover asked.apply asked.tries asked.key asked.group asked.dead)
  pub silent : IsSilent session more
  pub free : IsFree session server

-- the one request that is held is a recovery, of which a snapshot and some rounds are recorded, without a reply
pub record IsJudging (session : ℕ) (server : Server) (more : List Recorded) (held : List Words)
    (judging : Judging) : Type 0 where
  pub words : Words
  pub tries : ℕ
  pub key : List ℕ
  pub group : List ℕ
  pub dead : List (List ℕ)
  pub verdicts : List Event
  pub one : held ≡ words ∷ []
  pub is : IsCommand words (commands.Recover judging.apply tries key group dead)
  pub said : spoken session more ≡ events.Snapshot session key group dead ∷ verdicts
  pub rounds : AreRounds session judging.apply key group dead (max tries 1) verdicts
  pub left : length verdicts + suc judging.later ≡ max tries 1
  pub of_key : judging.snapshot.key ≡ key
  pub of_group : judging.snapshot.group ≡ group
  pub of_dead : judging.snapshot.dead ≡ in_order dead
  pub silent : addressed session more ≡ []
  pub free : IsFree session server

-- nothing is held, nothing of the session is recorded since its last request, and it may call
pub record IsResting (session : ℕ) (server : Server) (more : List Recorded) (held : List Words) : Type 0 where
  pub none : held ≡ []
  pub silent : IsSilent session more
  pub free : IsFree session server

-- the one request that is held, if there is one, gets no reply. Of it nothing was recorded, or exactly events that it
-- is; and the session has no other event since the last request that was answered
pub data IsLost (session : ℕ) (more : List Recorded) (held : List Words) : Type 0 where
  said_nothing : length held ≤ 1 → spoken session more ≡ [] → IsLost session more held
  was_begun : (words : Words) (asked : Command) → held ≡ words ∷ [] → IsCommand words asked
      → AreOf session asked (spoken session more) → IsLost session more held

-- by what the connection does: where it stands since the last request that was answered
abbrev pub Stays : ℕ → Server → List Recorded → List Words → Progress → Stage → Type 0
Stays session server more held requests stages.Idle = IsResting session server more held
Stays session server more held requests stages.Waiting = IsWaitingFor session server more held
Stays session server more held requests (stages.Asks asked) = IsAskingFor session server more held asked.value
Stays session server more held requests (stages.Judges judging) = IsJudging session server more held judging
Stays session server more held requests stages.Broken =
    IsResting session server more held × (requests.failed ≡ true) × (requests.waiting ≡ [])
Stays session server more held requests stages.CutOff = IsLost session more held

-- what is told last to a connection whose bytes went wrong
abbrev pub last_text : Stage → List ℕ
last_text stages.Idle = []
last_text stages.Waiting = []
last_text (stages.Asks asked) = []
last_text (stages.Judges judging) = []
last_text stages.Broken = protocol_text
last_text stages.CutOff = []

-- it gets no more replies: its bytes went wrong, or memory was refused
abbrev pub is_ended : Stage → Bool
is_ended stages.Idle = false
is_ended stages.Waiting = false
is_ended (stages.Asks asked) = false
is_ended (stages.Judges judging) = false
is_ended stages.Broken = true
is_ended stages.CutOff = true

-- a connection, of which these bytes were taken and these were given out, in a server that all these records led to:
-- the bytes that were looked at are requests, one that may be held, those that wait to be looked at, and then less than
-- one or a fault; they are all that were taken, but that a connection at its end passes over what comes after. What was
-- given and what is to be sent are, together, the texts of the requests, in order, by the records from the session's
-- join on
pub record IsLine (records : List Recorded) (server : Server) (taken given : List ℕ)
    (line : ConnectionState) : Type 0 where
  pub found : List Recorded
  pub told : List Recorded
  pub more : List Recorded
  pub answered : List Words
  pub held : List Words
  pub text : List ℕ
  pub looked_at : List ℕ
  pub passed_over : List ℕ
  pub joined : IsJoined line.session found
  pub bytes : taken ≡ looked_at ++ passed_over
  pub none_passed : is_ended line.stage ≡ false → passed_over ≡ []
  pub stands : Stands looked_at (answered ++ held) line.requests
  pub tells : AreAnswered (IsAnsweredInRecords line.session) found answered text told
  pub spelled : given ++ line.unsent ≡ text ++ last_text line.stage
  pub whole : records ≡ told ++ more
  pub stays : Stays line.session server more held line.requests line.stage

-- it asks for a recovery that is not begun yet
abbrev pub is_asking : Stage → Bool
is_asking stages.Idle = false
is_asking stages.Waiting = false
is_asking (stages.Asks asked) = true
is_asking (stages.Judges judging) = false
is_asking stages.Broken = false
is_asking stages.CutOff = false

-- a recovery that it asked for was begun: if it asks for one then, that is one of its later requests
abbrev pub Begins : ConnectionState → ConnectionState → Type 0
Begins before after = is_asking before.stage ≡ true → is_asking after.stage ≡ true
    → length after.requests.waiting < length before.requests.waiting

-- ---- how far it has come

-- a connection goes no further until something comes for it: it can take a request, and none waits to be looked at and
-- its bytes are sound, or it has this many bytes to send already; its call waits, and its session has no letter; it
-- asks for a recovery; a verdict is wanted; or it is at its end
abbrev pub IsAtRest : ℕ → Server → ConnectionState → Stage → Type 0
IsAtRest most server line stages.Idle =
    ((line.requests.waiting ≡ []) × (line.requests.failed ≡ false)) ⊎ (most ≤ length line.unsent)
IsAtRest most server line stages.Waiting = letter_of line.session server.sessions ≡ None
IsAtRest most server line (stages.Asks asked) = ⊤
IsAtRest most server line (stages.Judges judging) = ⊤
IsAtRest most server line stages.Broken = ⊤
IsAtRest most server line stages.CutOff = ⊤

-- the snapshot on which a verdict is wanted
abbrev pub wanted_of : Stage → Option SnapshotState
wanted_of stages.Idle = None
wanted_of stages.Waiting = None
wanted_of (stages.Asks asked) = None
wanted_of (stages.Judges judging) = Some judging.snapshot
wanted_of stages.Broken = None
wanted_of stages.CutOff = None
