-- How the reads that wait are stored: in a queue, by session. No public clause cites this.
use Rattle.std.specs.Prelude.{◌≡◌, ℕ, List, [], Option, false, map}
use Rattle.sr_waiters.specs.Waiters.{Waiting, due_at, is_reached}
use Rattle.sr_waiters.specs.declared.waiters.Blocked.{Blocked}

-- what is shown of an entry of the queue
abbrev pub shown_read : ℕ × Blocked → Waiting
shown_read e = record { session = e.0; call = e.1.call; deadline = e.1.deadline }

-- and of all of them
abbrev pub shown_reads : List (ℕ × Blocked) → List Waiting
shown_reads stored = map shown_read stored

-- no read is due at a moment at which this deadline is not reached
abbrev pub NoneIsDueBefore : Option ℕ → List Waiting → Type 0
NoneIsDueBefore soonest list = (moment : ℕ) → is_reached soonest moment ≡ false → due_at moment list ≡ []

-- the reads that are left are those that are due at such a moment
abbrev pub AreDueAmong : Option ℕ → List Waiting → List Waiting → Type 0
AreDueAmong soonest left list =
    (moment : ℕ) → is_reached soonest moment ≡ false → due_at moment left ≡ due_at moment list
