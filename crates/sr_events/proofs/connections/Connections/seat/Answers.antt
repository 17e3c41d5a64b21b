use Rattle.sr_events.proofs.ConnectionsLemmas.{ChangesAt-again}
use Rattle.sr_events.proofs.connections.Connections.seat.Goals as goal

pub returns-in-Some-clause-others : goal.returns-in-Some-clause-others
returns-in-Some-clause-others g c =
    ChangesAt-again c.args.token c.args.self.now.slots c.self.inside.slots.items c.fill.new.self
    (rw (← c.self.view_is) at c.close.ensures.others)
