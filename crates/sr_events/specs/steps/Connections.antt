-- How connections are stored. No public clause cites it.

use Rattle.std.specs.Prelude.{◌≡◌, ◌≢◌, ℕ, List, length, true, false, Option, None}
use Rattle.sr_hub.specs.declared.sockets.Heard.{Heard}
use Rattle.sr_events.specs.Slot.{SlotState, Tells, has_turn}
use Rattle.sr_events.specs.Turns.{Turns}
use Rattle.sr_events.specs.Connections.{ChangesAt, is_in_turn, open_count, slot_at}

-- the number of open connections is right, and each of which something can be told has a turn
pub record IsKept (slots : List SlotState) (taken : ℕ) (turns : Turns) : Type 0 where
  pub most : turns.most ≡ length slots
  pub counted : taken ≡ open_count slots
  pub scheduled : (token : ℕ) → has_turn (slot_at slots token) ≡ true → is_in_turn token turns ≡ true

-- the same, but for the turn of one token
pub record IsKeptBut (token : ℕ) (slots : List SlotState) (taken : ℕ) (turns : Turns) : Type 0 where
  pub most : turns.most ≡ length slots
  pub counted : taken ≡ open_count slots
  pub scheduled : (other : ℕ) → other ≢ token → has_turn (slot_at slots other) ≡ true
      → is_in_turn other turns ≡ true

-- what is told of the connection at a token, into this buffer
pub record TellsAt (token : ℕ) (buffer : List ℕ) (old : List SlotState) (told : Option Heard)
    (new : List SlotState) : Type 0 where
  pub others : ChangesAt token old new
  pub some : has_turn (slot_at old token) ≡ true → Tells token buffer (slot_at old token) told (slot_at new token)
  pub none : has_turn (slot_at old token) ≡ false → (told ≡ None) × (new ≡ old)
