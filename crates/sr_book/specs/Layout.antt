-- How the open sessions lie in a list, where binary search finds one, and what holds of a server always. No public
-- clause cites this.
use Rattle.std.specs.Prelude.{⊤, ◌≡◌, ℕ, ◌^◌, ◌<◌, nat_lt, List, [], ◌∷◌, Some, slice_get}
use Rattle.std.specs.List.{count_by}
use Rattle.sr_waiters.specs.{Waiting}
use Rattle.sr_book.specs.Server.{AreOpen, Session}

-- the number lies below that of each session
abbrev pub AreAbove : ℕ → List Session → Type 0
AreAbove number [] = ⊤
AreAbove number (session ∷ sessions) = (number < session.number) × AreAbove number sessions

-- each session's number is above those before it
abbrev pub AreRising : List Session → Type 0
AreRising [] = ⊤
AreRising (session ∷ sessions) = AreAbove session.number sessions × AreRising sessions

-- how many sessions have a lower number
abbrev pub below : ℕ → List Session → ℕ
below number sessions = count_by (λ session. nat_lt session.number number) sessions

-- the session at this place has the number
pub record IsPlace (number : ℕ) (sessions : List Session) (place : ℕ) : Type 0 where
  pub session : Session
  pub here : slice_get sessions place ≡ Some session
  pub same : session.number ≡ number

-- what holds of a server always: each session that waits is open, and the moment of the last record has 63 bits
pub record IsSound (sessions : List Session) (waiting : List Waiting) (last : ℕ) : Type 0 where
  pub waiting_open : AreOpen waiting sessions
  pub bound : last < 2 ^ 63
