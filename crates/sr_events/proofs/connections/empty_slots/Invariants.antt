use Rattle.std.proofs.Common.{◌≡◌, false, replicate}
use Rattle.sr_events.specs.Slot.{fresh}
use Rattle.sr_events.proofs.connections.empty_slots.Given as goal

abbrev pub invariant-loop : goal.invariant-loop
invariant-loop g l = l.slots.items ≡ replicate l.counter (fresh false 1)
