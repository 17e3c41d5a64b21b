use Rattle.sr_events.proofs.BytesLemmas.{bytes_noted}
use Rattle.sr_events.proofs.ConnectionsLemmas.{IsKept-event}
use Rattle.sr_events.proofs.connections.Connections.note.Goals as goal

pub invariant_of-self : goal.invariant_of-self
invariant_of-self g c = IsKept-event c.of-key.result.slot c.of-key.result.generation c.args.event.now
    c.self.inside.slots.items c.note_at.new.slots.items c.self.inside.taken c.self.inside.ring
    c.settle_after_event.new.ring c.self.invariant c.note_at.ensures
    (rw c.deref.ensures.value at c.settle_after_event.ensures)

pub returns-clause-bytes : goal.returns-clause-bytes
returns-clause-bytes g c = rw (← c.self.view_is) (bytes_noted c.of-key.result.slot c.of-key.result.generation c.args.event.now
    c.self.inside.slots.items c.note_at.new.slots.items c.note_at.ensures)
