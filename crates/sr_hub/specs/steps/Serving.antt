-- Cited by private clauses alone: an event loop goes on, by the hub alone or with the bytes of its sockets.

use Rattle.std.specs.Prelude.{◌≡◌, ◌≢◌, ℕ, Bool, List, ◌++◌, Some}
use Rattle.sr_book.specs.{Recorded}
use Rattle.sr_hub.specs.Heard.{AreTold, GoOnAs}
use Rattle.sr_hub.specs.Lines.{AreLines, HubState, session_at, with_more}
use Rattle.sr_hub.specs.Said.{last_of}
use Rattle.sr_hub.specs.Traffic.{AreServed, HasJoined, Traffic}

-- what contracts see of a keeper: its clock, and the connections that it put off
pub record KeeperState (C : Type 0) : Type 0 where
  pub clock : C
  pub later : List ℕ

-- ---- the hub alone

-- records were added, at moments of the clock, and no session joined; each connection goes on as a line
pub record GoesOn (may_tell : ℕ → Bool) (last : ℕ) (records : List Recorded) (taken given : ℕ → List ℕ)
    (hub : HubState) : Type 0 where
  pub added : List Recorded
  pub told : AreTold may_tell last added
  pub lasts : hub.book.server.last ≡ last_of last added
  pub silent : (session : ℕ) → HasJoined session added → ⊥
  pub lines : AreLines (records ++ added) taken given hub

-- no byte was taken or given, and each token has the connection of the same session
pub record Keeps (may_tell : ℕ → Bool) (old : HubState) (tells_then : ℕ → Bool) (new : HubState) : Type 0 where
  pub same : tells_then ≡ may_tell
  pub goes_on : (records : List Recorded) (taken given : ℕ → List ℕ) → AreLines records taken given old
      → GoesOn may_tell old.book.server.last records taken given new
  pub at : (token : ℕ) → session_at new token ≡ session_at old token

-- the same, but the connection at a token may be gone
pub record Releases (token : ℕ) (may_tell : ℕ → Bool) (old : HubState) (tells_then : ℕ → Bool)
    (new : HubState) : Type 0 where
  pub same : tells_then ≡ may_tell
  pub goes_on : (records : List Recorded) (taken given : ℕ → List ℕ) → AreLines records taken given old
      → GoesOn may_tell old.book.server.last records taken given new
  pub at : (session : ℕ) → session_at new token ≡ Some session → session_at old token ≡ Some session
  pub others : (other : ℕ) → other ≢ token → session_at new other ≡ session_at old other

-- the same as the first, but a piece was taken from the connection at a token
pub record TakesOn (token : ℕ) (piece : List ℕ) (may_tell : ℕ → Bool) (old : HubState) (tells_then : ℕ → Bool)
    (new : HubState) : Type 0 where
  pub same : tells_then ≡ may_tell
  pub goes_on : (records : List Recorded) (taken given : ℕ → List ℕ) → AreLines records taken given old
      → GoesOn may_tell old.book.server.last records (with_more token piece taken) given new
  pub at : (other : ℕ) → session_at new other ≡ session_at old other

-- ---- the hub and its sockets

-- an event loop: its hub, what may have passed through its sockets, and what its clock may tell
pub record Loop : Type 1 where
  pub hub : HubState
  pub may_have : Traffic → Type 0
  pub may_tell : ℕ → Bool

abbrev pub loop_of : HubState → (Traffic → Type 0) → (ℕ → Bool) → Loop
loop_of hub may_have may_tell = record { hub = hub; may_have = may_have; may_tell = may_tell }

-- if all are served by what may have passed through the sockets, all are by what may have then
pub record Serves (old new : Loop) : Type 0 where
  pub same : new.may_tell ≡ old.may_tell
  pub goes_on : (records : List Recorded) (traffic : Traffic) → old.may_have traffic
      → AreServed records traffic old.hub
      → GoOnAs old.may_tell old.hub.book.server.last records new.may_have new.hub
