-- What a call under the lock tells its seat, whoever else uses the book meanwhile.
-- Source: docs/DEFINITIONS.md, "The one-thread server".

use Rattle.std.specs.Prelude.{⊤, ◌≡◌, ◌+◌, ◌<◌, ◌≤◌, ℕ, Bool, true, false, Option, Some, None}
use Rattle.sr_args.specs.declared.call.Call.{Call}
use Rattle.sr_book.specs.declared.answer.Letter.{Letter}
use Rattle.sr_seats.specs.{SeatState}
use Rattle.sr_seats.specs.Held.{seen_by}
use Rattle.sr_seats.specs.declared.fault.SeatFault.{SeatFault}
use Rattle.sr_seats.specs.declared.fault.SeatFault.TheVariants as faults
use Rattle.sr_seats.specs.declared.receipt.Receipt.{Receipt}

-- the seat made one event, in a record after all that it had seen
pub record HasMade (index : ℕ) (old new : SeatState) : Type 0 where
  pub later : old.front < index
  pub counted : new ≡ record { number = old.number; before = old.before; share = old.share + 1; front = index }

-- a book that is behind what the seat has seen has an index below that
abbrev pub TellsBehind : SeatFault → SeatState → Type 0
TellsBehind (faults.Regress index) seat = index < seat.front
TellsBehind faults.NoSession seat = ⊤
TellsBehind faults.Busy seat = ⊤
TellsBehind faults.Full seat = ⊤
TellsBehind faults.Memory seat = ⊤
TellsBehind faults.Idle seat = ⊤

-- what may be told of an event: that a session has no letter is not
abbrev pub RefusesEvent : SeatFault → Type 0
RefusesEvent (faults.Regress index) = ⊤
RefusesEvent faults.NoSession = ⊤
RefusesEvent faults.Busy = ⊤
RefusesEvent faults.Full = ⊤
RefusesEvent faults.Memory = ⊤
RefusesEvent faults.Idle = ⊥

-- what may be told of a tick, which asks for no session
abbrev pub RefusesTick : SeatFault → Type 0
RefusesTick (faults.Regress index) = ⊤
RefusesTick faults.NoSession = ⊥
RefusesTick faults.Busy = ⊥
RefusesTick faults.Full = ⊤
RefusesTick faults.Memory = ⊤
RefusesTick faults.Idle = ⊥

-- what may be told of a letter, for which no record is made
abbrev pub RefusesLetter : SeatFault → Type 0
RefusesLetter (faults.Regress index) = ⊤
RefusesLetter faults.NoSession = ⊤
RefusesLetter faults.Busy = ⊥
RefusesLetter faults.Full = ⊥
RefusesLetter faults.Memory = ⊤
RefusesLetter faults.Idle = ⊤

-- the seat made nothing, and is as it was
pub record HasNotMade (fault : SeatFault) (old new : SeatState) : Type 0 where
  pub same : new ≡ old
  pub behind : TellsBehind fault old

-- a receipt of a call of this session, made by the seat
pub record IsReceiptOf (maker : SeatState) (caller : ℕ) (asked : Call) (receipt : Receipt) : Type 0 where
  pub seat : receipt.seat ≡ maker.number
  pub session : receipt.session ≡ caller
  pub call : receipt.call ≡ asked

-- the seat sees a letter of this session
pub record HasSeen (session : ℕ) (letter : Letter) (old new : SeatState) : Type 0 where
  pub addressee : letter.session ≡ session
  pub front : new ≡ seen_by letter.index old

-- a tick that found a deadline reached made one event, and one that found none made none
abbrev pub HasTicked : Bool → SeatState → SeatState → Type 0
HasTicked true old new = (index : ℕ) × HasMade index old new
HasTicked false old new = new ≡ old

-- what may be told of a checkpoint, which asks for no session and takes no memory
abbrev pub RefusesCheckpoint : SeatFault → Type 0
RefusesCheckpoint (faults.Regress index) = ⊤
RefusesCheckpoint faults.NoSession = ⊥
RefusesCheckpoint faults.Busy = ⊥
RefusesCheckpoint faults.Full = ⊥
RefusesCheckpoint faults.Memory = ⊥
RefusesCheckpoint faults.Idle = ⊥

-- the seat has seen the checkpoint that was made, which is of all that it had seen; if none was made, it is as it was
abbrev pub HasCompacted : Option ℕ → SeatState → SeatState → Type 0
HasCompacted (Some index) old new = (old.front ≤ index) × (new ≡ seen_by index old)
HasCompacted None old new = new ≡ old
