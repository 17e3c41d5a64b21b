-- What a call may show, and the acts of which it consists. No public clause cites it.

use Rattle.std.specs.Prelude.{⊤, ◌≡◌, ℕ, ◌^◌, ◌<◌, ◌≤◌, List, Bool, false, true, if◌then◌else◌}
use Rattle.std.specs.List.{All}
use Rattle.sr_ids.specs.declared.id.Id.{Id}
use Rattle.sr_entries.specs.declared.entry.Entry.{Entry}
use Rattle.sr_entries.specs.{has_id}
use Rattle.sr_pending.specs.declared.nack.Nack.{Nack}
use Rattle.sr_pending.specs.declared.room.Room.{Room}
use Rattle.sr_pending.specs.{IsCountable, room_left}
use Rattle.sr_group.specs.declared.shown.Act.{Act}
use Rattle.sr_group.specs.declared.shown.Act.TheVariants.{Give, Touch, Forget, Only}
use Rattle.sr_group.specs.Delivery.{raised}
use Rattle.sr_group.specs.Shown.{ShownState, gifts}

-- what is given becomes the consumer's, and times and counts are those that a reply can hold
abbrev pub IsActOf : List ℕ → Act → Type 0
IsActOf consumer (Give nack) = (nack.owner ≡ consumer) × IsCountable nack
IsActOf consumer (Touch id time count) = (time < 2 ^ 63) × (count < 2 ^ 63)
IsActOf consumer (Forget id) = ⊤
IsActOf consumer (Only listed) = ⊤

-- an entry becomes the consumer's, as a test
abbrev pub is_gift : Act → Bool
is_gift (Give nack) = true
is_gift (Touch id time count) = false
is_gift (Forget id) = false
is_gift (Only listed) = false

-- the moment is one of 63 bits, and each act is one of the consumer's
pub record IsShowable (shown : ShownState) : Type 0 where
  pub moment : shown.moment < 2 ^ 63
  pub acts : All (IsActOf shown.consumer) shown.acts

-- a consumer's acts, for which there is room
pub record HaveRoom (acts : List Act) (rooms : List Room) : Type 0 where
  pub consumer : List ℕ
  pub each : All (IsActOf consumer) acts
  pub room : gifts acts ≤ room_left consumer rooms

-- what is done to an entry with this id that is delivered: it is given to its reader, or listed alone
abbrev pub delivery_act : List ℕ → ℕ → Bool → Id → Act
delivery_act reader moment noack id =
    if noack then Only (record { id = id; found = true })
    else Give (record { id = id; owner = reader; time = moment; count = 1 })

abbrev pub delivery_of : List ℕ → ℕ → Bool → Entry → Act
delivery_of reader moment noack entry = delivery_act reader moment noack entry.id

-- a pending entry is shown once more: delivered now if the stream still has it
abbrev pub again : ℕ → List Entry → Nack → Act
again moment list nack =
    if has_id nack.id list then Touch nack.id moment (raised nack.count)
    else Only (record { id = nack.id; found = false })
