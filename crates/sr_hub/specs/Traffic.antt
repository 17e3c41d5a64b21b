-- What passes through the sockets of an event loop: the bytes of connections that are open, and of those that were
-- closed.

use Rattle.std.specs.Prelude.{⊤, ◌≡◌, ◌⊎◌, ◌==◌, ℕ, Bool, true, false, List, [], ◌∷◌, ◌++◌, if◌then◌else◌, IsSome, Some}
use Rattle.std.specs.List.{list_any}
use Rattle.sr_book.specs.{Recorded}
use Rattle.sr_book.specs.declared.event.Act.TheVariants as acts
use Rattle.sr_book.specs.declared.event.Event.TheVariants as events
use Rattle.sr_book.specs.Server.{Server, empty_server}
use Rattle.sr_book.specs.Records.{Legal}
use Rattle.sr_hub.specs.Line.{ConnectionState, IsLine}
use Rattle.sr_hub.specs.Lines.{AreLines, HubState, session_at, with_more, with_none}

-- a connection that was closed: the bytes that were taken from it, and those that were given to it
pub record Closed : Type 0 where
  pub taken : List ℕ
  pub given : List ℕ

-- at which tokens a connection is open; the bytes that were taken from the one at each token, and those that were given
-- to it; and the connections that were closed
pub record Traffic : Type 0 where
  pub opened : ℕ → Bool
  pub taken : ℕ → List ℕ
  pub given : ℕ → List ℕ
  pub closed : List Closed

-- ---- how it goes on

-- an answer at one token, and the same at the others
abbrev pub with_answer : ℕ → Bool → (ℕ → Bool) → ℕ → Bool
with_answer token answer all other = if other == token then answer else all other

-- bytes of the connection at a token were taken
abbrev pub takes : ℕ → List ℕ → Traffic → Traffic
takes token bytes traffic = record traffic { taken = with_more token bytes traffic.taken }

-- bytes were given to it
abbrev pub gives : ℕ → List ℕ → Traffic → Traffic
gives token bytes traffic = record traffic { given = with_more token bytes traffic.given }

-- it is closed, if one is open there
abbrev pub closes : ℕ → Traffic → Traffic
closes token traffic = if traffic.opened token
    then record {
      opened = with_answer token false traffic.opened;
      taken = traffic.taken;
      given = traffic.given;
      closed = record { taken = traffic.taken token; given = traffic.given token } ∷ traffic.closed;
    }
    else traffic

-- a new connection has this token
abbrev pub begins : ℕ → Traffic → Traffic
begins token traffic = record {
  opened = with_answer token true traffic.opened;
  taken = with_none token traffic.taken;
  given = with_none token traffic.given;
  closed = traffic.closed;
}

-- the connection that came last has this token from now on, and one that is open there is closed
abbrev pub names : ℕ → Traffic → Traffic
names token traffic = begins token (closes token traffic)

-- ---- what is known of it

-- a connection that was closed was a line of this session right before, in the server that the records up to then led
-- to: what it was given are the texts of its requests, in order, but for what was still to be sent to it
pub record WasLine (records : List Recorded) (session : ℕ) (connection : Closed) : Type 0 where
  pub before : List Recorded
  pub after : List Recorded
  pub server : Server
  pub line : ConnectionState
  pub whole : records ≡ before ++ after
  pub legal : Legal 1 (empty_server server.rules) before server
  pub was : IsLine before server connection.taken connection.given line
  pub own : line.session ≡ session

-- connections that were closed, and the session of each
abbrev pub WereLines : List Recorded → List ℕ → List Closed → Type 0
WereLines records [] [] = ⊤
WereLines records (session ∷ sessions) (connection ∷ closed) =
    WasLine records session connection × WereLines records sessions closed
WereLines records [] (connection ∷ closed) = ⊥
WereLines records (session ∷ sessions) [] = ⊥

-- in these records a session joined
abbrev pub HasJoined : ℕ → List Recorded → Type 0
HasJoined session [] = ⊥
HasJoined session (first ∷ records) =
    ((first.act ≡ acts.Event events.Join) × (first.index ≡ session)) ⊎ HasJoined session records

-- it is one of these
abbrev pub IsAmong : ℕ → List ℕ → Type 0
IsAmong session sessions = list_any (λ other. other == session) sessions ≡ true

-- the connections of a hub and of its sockets: each that is open is in the hub; each that is in the hub is a line of
-- the bytes that were taken from it and given to it, and is open, or was closed and has still to leave; each that was
-- closed was a line; and each session that joined is that of a connection in the hub or of one that was closed
pub record AreServed (records : List Recorded) (traffic : Traffic) (hub : HubState) : Type 0 where
  pub gone : List ℕ
  pub opened : (token : ℕ) → traffic.opened token ≡ true → IsSome (hub.at token)
  pub lines : AreLines records traffic.taken traffic.given hub
  pub closed : WereLines records gone traffic.closed
  pub left : (token session : ℕ) → session_at hub token ≡ Some session
      → (traffic.opened token ≡ true) ⊎ IsAmong session gone
  pub joined : (session : ℕ) → HasJoined session records
      → IsAmong session gone ⊎ ((token : ℕ) × (session_at hub token ≡ Some session))
