-- What a call of a hub has the book record: the events of one session, or one event; and servings.

use Rattle.std.specs.Prelude.{⊤, ◌≡◌, ℕ, List, [], ◌∷◌, ◌++◌, Option, Some, None}
use Rattle.std.specs.List.{AllByRecursion}
use Rattle.sr_book.specs.Server.{speaker}
use Rattle.sr_book.specs.{BookState, IsStepped, Recorded, next_moment}
use Rattle.sr_book.specs.declared.answer.Answer.{Answer}
use Rattle.sr_book.specs.declared.event.Act.{Act}
use Rattle.sr_book.specs.declared.event.Act.TheVariants as acts
use Rattle.sr_book.specs.declared.event.Event.{Event}
use Rattle.sr_book.specs.declared.event.Event.TheVariants as events
use Rattle.sr_hub.specs.Line.{ConnectionState}

-- an event of this session, or a serving
abbrev pub IsOwn : ℕ → Act → Type 0
IsOwn session (acts.Event event) = speaker event ≡ Some session
IsOwn session (acts.Serve other) = ⊤

-- records were added: events of this session, and servings
pub record Says (session : ℕ) (old new : BookState) : Type 0 where
  pub added : List Recorded
  pub same_base : new.base ≡ old.base
  pub grown : new.records ≡ old.records ++ added
  pub own : AllByRecursion (λ recorded. IsOwn session recorded.act) added

-- what the connection at a token, if there is one, has the book record
abbrev pub SaysOf : Option ConnectionState → BookState → BookState → Type 0
SaysOf None old new = new ≡ old
SaysOf (Some line) old new = Says line.session old new

-- the moment of the last record, or the last one before if there is none
abbrev pub last_of : ℕ → List Recorded → ℕ
last_of last [] = last
last_of last (first ∷ records) = last_of first.moment records

-- records were added, each at the moment of a record for this one, and their last moment is the last of the server
pub record IsTimed (moment : ℕ) (old new : BookState) : Type 0 where
  pub added : List Recorded
  pub grown : new.records ≡ old.records ++ added
  pub at : AllByRecursion (λ recorded. recorded.moment ≡ next_moment old moment) added
  pub last : new.server.last ≡ last_of old.server.last added

-- one record was added of this event, at a moment that is handed in, and then servings
pub record Occurs (old : BookState) (moment : ℕ) (event : Event) (new : BookState) : Type 0 where
  pub answer : Answer
  pub stepped : IsStepped old moment event answer new

-- the session of the connection at a token, if there is one, left
abbrev pub LeavesOf : Option ConnectionState → BookState → ℕ → BookState → Type 0
LeavesOf None old moment new = new ≡ old
LeavesOf (Some line) old moment new = Occurs old moment (events.Leave line.session) new
