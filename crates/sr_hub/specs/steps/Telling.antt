-- Cited by private clauses alone: what a text makes of a connection, and what comes of an event at the book.

use Rattle.std.specs.Prelude.{◌≡◌, ℕ, List, ◌++◌, true, false, Err}
use Rattle.sr_resp.specs.Stream.{Advances}
use Rattle.sr_resp.specs.declared.code.ErrCode.{ErrCode}
use Rattle.sr_resp.specs.declared.code.ErrCode.TheVariants as errors
use Rattle.sr_book.specs.{BookState, IsHistory, IsStepped}
use Rattle.sr_book.specs.Records.{IsCertain, Steps}
use Rattle.sr_book.specs.declared.answer.Answer.{Answer}
use Rattle.sr_book.specs.declared.event.BookFault.{BookFault}
use Rattle.sr_book.specs.declared.event.BookFault.TheVariants as faults
use Rattle.sr_book.specs.declared.event.Event.{Event}
use Rattle.sr_book.specs.declared.event.Out.{Out}
use Rattle.sr_session.specs.{protocol_text}
use Rattle.sr_hub.specs.Line.{ConnectionState, is_ended}
use Rattle.sr_hub.specs.declared.hub.TakeFault.{TakeFault}
use Rattle.sr_hub.specs.declared.hub.TakeFault.TheVariants as take_faults
use Rattle.sr_hub.specs.declared.stage.Stage.TheVariants as stages

-- the text is to be sent, and the next request can be taken; or memory is lacking for it, and the connection is cut off
pub data Tells (text : List ℕ) (old new : ConnectionState) : Type 0 where
  told : new ≡ record old { unsent = old.unsent ++ text; stage = stages.Idle } → Tells text old new
  cut_off : new ≡ record old { stage = stages.CutOff } → Tells text old new

-- a connection of which no request waits is told that its bytes went wrong, if they did
pub data TellsFault (old new : ConnectionState) : Type 0 where
  is_sound : old.requests.failed ≡ false → new ≡ old → TellsFault old new
  went_wrong : old.requests.failed ≡ true
      → new ≡ record old { unsent = old.unsent ++ protocol_text; stage = stages.Broken } → TellsFault old new
  lacks : new ≡ record old { stage = stages.CutOff } → TellsFault old new

-- a piece was taken
pub record Feeds (piece : List ℕ) (old new : ConnectionState) : Type 0 where
  pub advances : Advances old.requests new.requests piece
  pub same : new ≡ record old { requests = new.requests }

-- it was not, since memory is lacking
pub record FeedsNot (old new : ConnectionState) : Type 0 where
  pub looked : ℕ
  pub same : new ≡ record old { requests = record old.requests { looked = looked } }

-- an event of a book was carried out, and this came of it
pub record Comes (old : BookState) (moment : ℕ) (event : Event) (out : Out) (new : BookState) : Type 0 where
  pub answer : Answer
  pub is : answer.out ≡ out
  pub stepped : IsStepped old moment event answer new
  pub history : IsHistory old
  pub certain : IsCertain event

-- the error that is told of an event of a session that may call. Such a session is open and does not wait
abbrev pub refusal_code : BookFault → ErrCode
refusal_code faults.Memory = errors.Memory
refusal_code faults.Busy = errors.Memory
refusal_code faults.Full = errors.Full
refusal_code faults.NoSession = errors.Memory

-- an event was refused, and this is told of it
pub record IsRefusedBy (old : BookState) (moment : ℕ) (event : Event) (code : ErrCode) (new : BookState) : Type 0 where
  pub fault : BookFault
  pub is : code ≡ refusal_code fault
  pub refused : Steps old moment event (Err fault) new

-- a piece was refused: the connection is at its end, or memory is lacking and it is cut off now
pub data IsUntaken (fault : TakeFault) (old new : ConnectionState) : Type 0 where
  ended : fault ≡ take_faults.Ended → is_ended old.stage ≡ true → new ≡ old → IsUntaken fault old new
  unfed : (looked : ℕ) → fault ≡ take_faults.Memory → is_ended old.stage ≡ false
      → new ≡ record old { requests = record old.requests { looked = looked }; stage = stages.CutOff }
      → IsUntaken fault old new

-- an event of a book was carried out
pub record Happens (old : BookState) (moment : ℕ) (event : Event) (new : BookState) : Type 0 where
  pub answer : Answer
  pub stepped : IsStepped old moment event answer new
  pub history : IsHistory old
