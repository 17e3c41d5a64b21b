-- Cited by private clauses alone: what a call of a hub does to one of its connections.

use Rattle.std.specs.Prelude.{◌≡◌, ◌≢◌, ℕ, List, [], false, drop, Some, None}
use Rattle.slab.specs.Slab.{Slab, get}
use Rattle.sr_resp.specs.Stream.{Stands}
use Rattle.sr_book.specs.Server.{refusal}
use Rattle.sr_book.specs.{BookState, next_index}
use Rattle.sr_book.specs.Records.{IsRefusal}
use Rattle.sr_book.specs.declared.event.BookFault.{BookFault}
use Rattle.sr_book.specs.declared.event.Event.TheVariants as events
use Rattle.sr_hub.specs.Line.{Begins, ConnectionState, IsAtRest, is_ended}
use Rattle.sr_hub.specs.Lines.{HubState}
use Rattle.sr_hub.specs.declared.hub.TakeFault.{TakeFault}
use Rattle.sr_hub.specs.declared.hub.TakeFault.TheVariants as take_faults
use Rattle.sr_hub.specs.declared.stage.Stage.TheVariants as stages
use Rattle.sr_hub.specs.steps.Moves.{Moves, Takes}
use Rattle.sr_hub.specs.steps.Telling.{Happens, IsUntaken}

-- a book and the connections in a slab
abbrev pub hub_of : BookState → Slab ConnectionState → HubState
hub_of book slab = record { book = book; at = λ token. get slab token }

-- the connection at a token is this one after another one, and the others are as they were
pub record Changes (token : ℕ) (old new : HubState) (before after : ConnectionState) : Type 0 where
  pub was : old.at token ≡ Some before
  pub is : new.at token ≡ Some after
  pub same : after.session ≡ before.session
  pub others : (other : ℕ) → other ≢ token → new.at other ≡ old.at other

-- it goes on as far as it can
pub record MovesAt (token : ℕ) (old new : HubState) : Type 0 where
  pub before : ConnectionState
  pub after : ConnectionState
  pub changes : Changes token old new before after
  pub moves : Moves old.book before new.book after
  pub rests : IsAtRest 65536 new.book.server after after.stage

-- a recovery that it asked for was begun
pub record BeginsAt (token : ℕ) (old new : HubState) : Type 0 where
  pub before : ConnectionState
  pub after : ConnectionState
  pub was : old.at token ≡ Some before
  pub is : new.at token ≡ Some after
  pub begins : Begins before after

-- it takes a piece, and goes on as far as it can
pub record TakesAt (token : ℕ) (piece : List ℕ) (old new : HubState) : Type 0 where
  pub before : ConnectionState
  pub after : ConnectionState
  pub changes : Changes token old new before after
  pub goes : is_ended before.stage ≡ false
  pub takes : Takes piece old.book before new.book after
  pub rests : IsAtRest 65536 new.book.server after after.stage

-- it refuses a piece, or there is none
pub data IsRefusedAt (token : ℕ) (fault : TakeFault) (old new : HubState) : Type 0 where
  is_gone : fault ≡ take_faults.Gone → old.at token ≡ None → new ≡ old → IsRefusedAt token fault old new
  is_there : (before after : ConnectionState) → Changes token old new before after → new.book ≡ old.book
      → IsUntaken fault before after → IsRefusedAt token fault old new

-- its first bytes are sent
pub record SendsAt (token count : ℕ) (old new : HubState) : Type 0 where
  pub before : ConnectionState
  pub changes : Changes token old new before (record before { unsent = drop count before.unsent })
  pub same : new.book ≡ old.book

-- a connection comes
pub record ComesAt (token moment : ℕ) (old new : HubState) : Type 0 where
  pub fresh : ConnectionState
  pub absent : old.at token ≡ None
  pub there : new.at token ≡ Some fresh
  pub others : (other : ℕ) → other ≢ token → new.at other ≡ old.at other
  pub happens : Happens old.book moment events.Join new.book
  pub number : fresh.session ≡ next_index old.book
  pub stands : Stands [] [] fresh.requests
  pub unsent : fresh.unsent ≡ []
  pub idle : fresh.stage ≡ stages.Idle

-- none does
pub record ComesNot (fault : BookFault) (old new : HubState) : Type 0 where
  pub same : new ≡ old
  pub refused : IsRefusal (refusal old.book.server (next_index old.book) events.Join) fault

-- the connection at a token goes, if there is one
pub data GoesAt (token moment : ℕ) (old new : HubState) : Type 0 where
  no_one : old.at token ≡ None → new ≡ old → GoesAt token moment old new
  some_one : (gone : ConnectionState) → old.at token ≡ Some gone
      → Happens old.book moment (events.Leave gone.session) new.book → new.at token ≡ None
      → ((other : ℕ) → other ≢ token → new.at other ≡ old.at other) → GoesAt token moment old new

-- it does not
pub record GoesNot (token : ℕ) (fault : BookFault) (old new : HubState) : Type 0 where
  pub gone : ConnectionState
  pub was : old.at token ≡ Some gone
  pub same : new ≡ old
  pub refused : IsRefusal (refusal old.book.server (next_index old.book) (events.Leave gone.session)) fault
