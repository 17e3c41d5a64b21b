use Rattle.sr_events.proofs.sockets.EventSocketsSockets.name.Goals as goal

pub returns-then-not-seat-clause-bytes : goal.returns-then-not-seat-clause-bytes
returns-then-not-seat-clause-bytes g c = rw (← c.self.view_is) at c.seat.ensures.bytes
