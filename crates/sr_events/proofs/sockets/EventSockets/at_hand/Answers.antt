use Rattle.sr_events.proofs.BytesLemmas.{bytes_comer}
use Rattle.sr_events.proofs.SocketsLemmas.{comer_told}
use Rattle.sr_events.proofs.sockets.EventSockets.at_hand.Goals as goal

pub returns-clause-told : goal.returns-clause-told
returns-clause-told g c =
    comer_told _ c.args.self.now _ c.comer.result c.comer.ensures.came (rw c.comer.ensures.kept.1 c.in_default-next.ensures.none)

pub returns-in-Some-next-clause-bytes : goal.returns-in-Some-next-clause-bytes
returns-in-Some-next-clause-bytes g c = rw (← c.self.view_is) c.in-Some-next.ensures.bytes

pub returns-clause-bytes : goal.returns-clause-bytes
returns-clause-bytes g c = rw (← c.self.view_is) (
    bytes_comer c.next.new.buffer c.self.inside.connections.slots c.comer.new.self.kept.slots c.comer.result
    c.comer.new.self c.comer.ensures.came (rw c.comer.ensures.kept.1 c.in_default-next.ensures.bytes))
