use Rattle.std.proofs.Common.{◌≡◌, length}
use Rattle.sr_pending.specs.Pending.{AreRising}
use Rattle.sr_pending.specs.steps.Blocks.{items_of}
use Rattle.sr_pending.specs.steps.Slots.{nacks_at, slots_of, slots_without_owner}
use Rattle.sr_pending.proofs.owned.remove_each.Given as goal

abbrev pub invariant-loop-slot : goal.invariant-loop-slot
invariant-loop-slot l =
    (l.rest ≡ slots_of l.owner l.slab (items_of l.slots))
    × AreRising (nacks_at l.slab (items_of l.slots))
    × (slots_without_owner l.owner l.slab (items_of l.slots) ≡ slots_without_owner l.owner l.slab (items_of l.fn.slots))
    × (l.slots.room ≡ l.fn.slots.room)

abbrev pub decreases-loop-slot : goal.decreases-loop-slot
decreases-loop-slot l = length l.rest
