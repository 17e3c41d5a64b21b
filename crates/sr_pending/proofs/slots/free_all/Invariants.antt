use Rattle.std.proofs.Common.{length}
use Rattle.slab.specs.Slab.{Slab}
use Rattle.sr_pending.specs.declared.nack.Nack.{Nack}
use Rattle.sr_pending.specs.steps.OwnedSlots.{slots_by}
use Rattle.sr_pending.specs.steps.Slots.{AreDistinct, AreTaken, Frees}
use Rattle.sr_pending.proofs.slots.free_all.Given as goal

abbrev pub invariant-loop-slot : goal.invariant-loop-slot
invariant-loop-slot l =
    AreTaken l.slab l.rest
    × AreDistinct l.rest
    × ((last : Slab Nack) → Frees l.rest l.slab last → Frees (slots_by l.held l.owner) l.fn.slab last)

abbrev pub decreases-loop-slot : goal.decreases-loop-slot
decreases-loop-slot l = length l.rest
