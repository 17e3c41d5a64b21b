-- What a copy has while the reads that are left join it. No public clause cites this.
use Rattle.std.specs.Prelude.{◌≡◌, ℕ, ◌≤◌, List, ◌++◌, length}
use Rattle.sr_waiters.specs.Layout.{shown_reads}
use Rattle.sr_waiters.specs.Waiters.{AreOnce, Waiting, WaitersState}
use Rattle.sr_waiters.specs.declared.waiters.Blocked.{Blocked}

-- the copy and what is left to copy are all the reads, each of another session, and there is room for what is left
pub record AreCopied (copy : WaitersState) (left : List (ℕ × Blocked)) (all : List Waiting) : Type 0 where
  pub joined : copy.list ++ shown_reads left ≡ all
  pub once : AreOnce all
  pub places : length left ≤ copy.room
