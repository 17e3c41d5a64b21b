use Rattle.sr_events.proofs.ConnectionsLemmas.{IsKept-changed, taken-held}
use Rattle.sr_events.proofs.connections.Connections.hold.Goals as goal

pub invariant_of-self : goal.invariant_of-self
invariant_of-self g c = IsKept-changed c.args.token c.self.inside.slots.items c.hold_at.new.slots.items
    c.self.inside.taken c.self.inside.ring c.settle.new.ring c.self.invariant c.hold_at.ensures.others
    (taken-held c.args.token c.args.held c.self.inside.slots.items c.hold_at.new.slots.items c.hold_at.ensures.others
    c.hold_at.ensures.held) (rw c.deref.ensures.value at c.settle.ensures)
