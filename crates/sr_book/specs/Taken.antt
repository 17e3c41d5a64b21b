-- Reads that wait, taken one after another since their deadline is reached. No public clause cites this.
use Rattle.std.specs.Prelude.{◌≡◌, ℕ, ◌+◌, List, ◌∷◌, ◌++◌, length, map}
use Rattle.sr_resp.specs.{ReplyParts}
use Rattle.sr_resp.specs.Reply.{null_array}
use Rattle.sr_waiters.specs.{AreOnce, Waiting, due_at, not_due_at}
use Rattle.sr_book.specs.Server.{Session, with_nothing}

-- the session's read was the first that was due, and the others wait still
pub record TakesDue (moment session : ℕ) (old new : List Waiting) : Type 0 where
  pub read : Waiting
  pub same : read.session ≡ session
  pub due : due_at moment old ≡ read ∷ due_at moment new
  pub others : not_due_at moment new ≡ not_due_at moment old
  pub fewer : length new + 1 ≡ length old
  pub once : AreOnce new

-- the null array for each of these reads
abbrev pub nothing_for : List Waiting → List (ℕ × ReplyParts)
nothing_for due = map (λ read. (read.session, null_array)) due

-- answering what is left leads to what answering all leads to
pub record IsLeftOfDue (index moment : ℕ) (all_sessions sessions : List Session) (all list : List Waiting)
    (all_sent sent : List (ℕ × ReplyParts)) : Type 0 where
  pub once : AreOnce list
  pub letters : with_nothing index (due_at moment list) sessions ≡ with_nothing index (due_at moment all) all_sessions
  pub others : not_due_at moment list ≡ not_due_at moment all
  pub replies : sent ++ nothing_for (due_at moment list) ≡ all_sent ++ nothing_for (due_at moment all)
