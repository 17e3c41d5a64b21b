-- What the type keeps. No public clause cites it.

use Rattle.std.specs.Prelude.{◌≡◌, ℕ, ◌+◌, ◌^◌, ◌<◌, ◌≤◌, List, length}
use Rattle.std.specs.HashMap.{HashMap}
use Rattle.std.specs.List.{All}
use Rattle.slab.specs.Slab.{Slab, slab_len}
use Rattle.sr_pending.specs.declared.nack.Nack.{Nack}
use Rattle.sr_pending.specs.declared.room.Room.{Room}
use Rattle.sr_pending.specs.steps.Blocks.{Laid}
use Rattle.sr_pending.specs.steps.OwnedSlots.{HasSpare, IsIndexed}
use Rattle.sr_pending.specs.steps.Room.{rooms_in_all}
use Rattle.sr_pending.specs.steps.Slots.{AreTaken, nacks_at}
use Rattle.sr_pending.specs.Pending.{AreRising, IsCountable}

-- the entries in the slots rise, and their times and counts are countable; each slot has an entry, and no other slot
-- has one; each owner's slots are those of its entries; and what was reserved can be counted, and finds places in the
-- slab, among the slots and among those of each owner
pub record IsSound
    {S : Type 0} (slab : Slab Nack) (slots : List ℕ) (rooms : List Room) (held : HashMap (List ℕ) (Laid ℕ) S)
    (spare : ℕ) : Type 0 where
  pub rising : AreRising (nacks_at slab slots)
  pub countable : All IsCountable (nacks_at slab slots)
  pub taken : AreTaken slab slots
  pub counted : slab_len slab ≡ length slots
  pub indexed : IsIndexed held slab slots
  pub small : rooms_in_all rooms < 2 ^ 63
  pub places : length slots + rooms_in_all rooms ≤ slab.capacity
  pub fits : rooms_in_all rooms ≤ spare
  pub spared : HasSpare held rooms
