use Rattle.sr_events.proofs.BytesLemmas.{bytes_or_nothing}
use Rattle.sr_events.proofs.sockets.EventSocketsSockets.next.Goals as goal

pub returns-in-None-clause-bytes : goal.returns-in-None-clause-bytes
returns-in-None-clause-bytes g c = rw c.unwrap_or.ensures (
    bytes_or_nothing c.at_hand-in-None.new.buffer c.args.self.now.kept.slots c.look.new.self.kept.slots
    c.at_hand-in-None.new.self.kept.slots c.at_hand-in-None.result
    (λ taken given may. c.look.ensures.bytes taken given (c.in-None.ensures.bytes taken given may))
    c.at_hand-in-None.ensures.bytes)

pub returns-in-None-2-clause-bytes : goal.returns-in-None-2-clause-bytes
returns-in-None-2-clause-bytes g c = λ taken given may.
    c.look.ensures.bytes taken given (c.in-None-2.ensures.bytes taken given may)
