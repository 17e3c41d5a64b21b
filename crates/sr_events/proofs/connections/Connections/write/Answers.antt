use Rattle.std.proofs.Common.{ap}
use Rattle.sr_events.proofs.ConnectionsLemmas.{IsKept-changed}
use Rattle.sr_events.proofs.connections.Connections.write.Goals as goal

pub invariant_of-self : goal.invariant_of-self
invariant_of-self g c = IsKept-changed c.args.token c.self.inside.slots.items c.write_at-count.new.slots.items
    c.self.inside.taken c.self.inside.ring c.settle.new.ring c.self.invariant c.write_at-count.ensures.others
    (ap (λ slot. slot.taken) c.write_at-count.ensures.written.others) (rw c.deref.ensures.value at c.settle.ensures)
