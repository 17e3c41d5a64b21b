-- All connections of an event loop over one book: each gets exactly the replies that the one book's records address to
-- its session, in order, whatever the network brings.
-- Source: docs/DEFINITIONS.md, "The one-thread server".

use Rattle.std.specs.Prelude.{◌≡◌, ◌==◌, ℕ, List, [], ◌++◌, length, Option, Some, None, if◌then◌else◌}
use Rattle.std.specs.Prelude.{◌≢◌, IsSomeAnd, slice_index_or}
use Rattle.std.specs.Option.{option_map}
use Rattle.sr_book.specs.{is_open, letter_of, BookState, Recorded}
use Rattle.sr_book.specs.Server.{empty_server}
use Rattle.sr_book.specs.Records.{Legal}
use Rattle.std.specs.Prelude.{true}
use Rattle.sr_hub.specs.Line.{ConnectionState, IsLine}
use Rattle.sr_hub.specs.declared.stage.Stage.TheVariants as stages

-- what contracts see: the book, and the connections in their slots
pub record HubParts : Type 0 where
  pub book : BookState
  pub slots : List (Option ConnectionState)

-- the book, and the connection at each token
pub record HubState : Type 0 where
  pub book : BookState
  pub at : ℕ → Option ConnectionState

-- what is at each token: the connection in the slot of that number
abbrev pub state_of : HubParts → HubState
state_of parts = record { book = parts.book; at = λ token. slice_index_or parts.slots token None }

-- the session of the connection at a token, if there is one
abbrev pub session_at : HubState → ℕ → Option ℕ
session_at hub token = option_map (λ (line : ConnectionState). line.session) (hub.at token)

-- all records of a book from the empty server on, those before its last checkpoint too: they lead legally to its state,
-- and those that it keeps are the last of them
pub record AreAll (records : List Recorded) (book : BookState) : Type 0 where
  pub dropped : List Recorded
  pub kept : records ≡ dropped ++ book.records
  pub counted : length dropped ≡ book.base.index
  pub legal : Legal 1 (empty_server book.server.rules) records book.server

-- the connection at each token is a line of the bytes that were taken from it and given to it
abbrev pub AreLines : List Recorded → (ℕ → List ℕ) → (ℕ → List ℕ) → HubState → Type 0
AreLines records taken given hub =
    AreAll records hub.book
    × ((token : ℕ) (line : ConnectionState) → hub.at token ≡ Some line
    → IsLine records hub.book.server (taken token) (given token) line)

-- records were added, and each connection goes on as a line
pub record GoOn (records : List Recorded) (taken given : ℕ → List ℕ) (hub : HubState) : Type 0 where
  pub added : List Recorded
  pub lines : AreLines (records ++ added) taken given hub

-- more bytes at one token, and the same at the others
abbrev pub with_more : ℕ → List ℕ → (ℕ → List ℕ) → ℕ → List ℕ
with_more token bytes all other = if other == token then all other ++ bytes else all other

-- none at one token, and the same at the others
abbrev pub with_none : ℕ → (ℕ → List ℕ) → ℕ → List ℕ
with_none token all other = if other == token then [] else all other

-- the connection at a token waits, and its session was given its reply
abbrev pub IsLettered : HubState → ℕ → Type 0
IsLettered hub token = IsSomeAnd (hub.at token) (λ line. (line.stage ≡ stages.Waiting)
    × (letter_of line.session hub.book.server.sessions ≢ None))

-- no two connections have one session, and the session of each is open
pub record AreApart (hub : HubState) : Type 0 where
  pub own : (a b : ℕ) (first second : ConnectionState) → hub.at a ≡ Some first → hub.at b ≡ Some second
      → first.session ≡ second.session → a ≡ b
  pub opened : (token : ℕ) (line : ConnectionState) → hub.at token ≡ Some line
      → is_open line.session hub.book.server.sessions ≡ true
