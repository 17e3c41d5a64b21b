use Rattle.std.proofs.Common.{◌≡◌, length}
use Rattle.sr_events.specs.Connections.{KeepBytes}
use Rattle.sr_events.specs.steps.Connections.{IsKept}
use Rattle.sr_events.proofs.connections.Connections.next.Given as goal

abbrev pub invariant-loop-self : goal.invariant-loop-self
invariant-loop-self g l = record {
  kept : IsKept l.self-inside.slots.items l.self-inside.taken l.self-inside.ring;
  count : length l.self-inside.slots.items ≡ length l.fn.self.slots;
  bytes : KeepBytes l.fn.self.slots l.self-inside.slots.items;
}

abbrev pub decreases-loop-self : goal.decreases-loop-self
decreases-loop-self g l = l.self-inside.left
