-- Cited by private clauses alone: one connection and the book, while the connection's requests are answered.

use Rattle.std.specs.Prelude.{◌≡◌, ℕ, true, List, [], ◌∷◌, ◌++◌}
use Rattle.std.specs.List.{AllByRecursion}
use Rattle.sr_resp.specs.{Words}
use Rattle.sr_resp.specs.Stream.{Stands}
use Rattle.sr_args.specs.declared.call.Command.{Command}
use Rattle.sr_args.specs.{IsCommand}
use Rattle.sr_book.specs.{is_open, BookState, Recorded, next_index}
use Rattle.sr_book.specs.Server.{Server}
use Rattle.sr_book.specs.Records.{Legal}
use Rattle.sr_session.specs.{AreAnswered}
use Rattle.sr_hub.specs.OneRequest.{IsSilent, IsAnsweredInRecords}
use Rattle.sr_hub.specs.Line.{ConnectionState, IsFree, IsJoined, IsLine}
use Rattle.sr_hub.specs.Lines.{AreAll}
use Rattle.sr_hub.specs.Said.{IsOwn}

-- records were added, which lead legally on; their events are of this session
pub record Adds (session : ℕ) (old : BookState) (more : List Recorded) (new : BookState) : Type 0 where
  pub same_base : new.base ≡ old.base
  pub grown : new.records ≡ old.records ++ more
  pub legal : Legal (next_index old) old.server more new.server
  pub own : AllByRecursion (λ recorded. IsOwn session recorded.act) more

-- no session closes
abbrev pub KeepsOpen : Server → Server → Type 0
KeepsOpen old new = (session : ℕ) → is_open session old.sessions ≡ true → is_open session new.sessions ≡ true

-- the connection goes on as a line, while records are added whose events are of its session
pub record Moves (old : BookState) (line : ConnectionState) (new : BookState) (after : ConnectionState) : Type 0 where
  pub more : List Recorded
  pub adds : Adds line.session old more new
  pub opened : KeepsOpen old.server new.server
  pub same : after.session ≡ line.session
  pub goes_on : (records : List Recorded) (taken given : List ℕ) → AreAll records old
      → IsLine records old.server taken given line → IsLine (records ++ more) new.server taken given after

-- the same of a connection that can take the next request, of which these words were handed out and not answered
pub record IsHolding (words : Words) (records : List Recorded) (server : Server) (taken given : List ℕ)
    (line : ConnectionState) : Type 0 where
  pub found : List Recorded
  pub told : List Recorded
  pub more : List Recorded
  pub answered : List Words
  pub joined : IsJoined line.session found
  pub stands : Stands taken (answered ++ words ∷ []) line.requests
  pub tells : AreAnswered (IsAnsweredInRecords line.session) found answered (given ++ line.unsent) told
  pub whole : records ≡ told ++ more
  pub silent : IsSilent line.session more
  pub free : IsFree line.session server

-- the words are answered, or held: the connection goes on as a line
pub record Answers (words : Words) (old : BookState) (line : ConnectionState) (new : BookState)
    (after : ConnectionState) : Type 0 where
  pub more : List Recorded
  pub adds : Adds line.session old more new
  pub opened : KeepsOpen old.server new.server
  pub same : after.session ≡ line.session
  pub goes_on : (records : List Recorded) (taken given : List ℕ) → AreAll records old
      → IsHolding words records old.server taken given line → IsLine (records ++ more) new.server taken given after

-- the same of whatever words are this command
pub record AnswersAs (asked : Command) (old : BookState) (line : ConnectionState) (new : BookState)
    (after : ConnectionState) : Type 0 where
  pub more : List Recorded
  pub adds : Adds line.session old more new
  pub opened : KeepsOpen old.server new.server
  pub same : after.session ≡ line.session
  pub goes_on : (words : Words) → IsCommand words asked
      → (records : List Recorded) (taken given : List ℕ) → AreAll records old
      → IsHolding words records old.server taken given line → IsLine (records ++ more) new.server taken given after

-- the same while a piece of its bytes is taken first
pub record Takes (piece : List ℕ) (old : BookState) (line : ConnectionState) (new : BookState)
    (after : ConnectionState) : Type 0 where
  pub more : List Recorded
  pub adds : Adds line.session old more new
  pub opened : KeepsOpen old.server new.server
  pub same : after.session ≡ line.session
  pub goes_on : (records : List Recorded) (taken given : List ℕ) → AreAll records old
      → IsLine records old.server taken given line
      → IsLine (records ++ more) new.server (taken ++ piece) given after
