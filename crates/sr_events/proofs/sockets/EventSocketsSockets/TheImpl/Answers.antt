use Rattle.sr_events.specs.Connections.{MayHave}
use Rattle.sr_events.proofs.BytesLemmas.{names_bytes}
use Rattle.sr_events.proofs.sockets.EventSocketsSockets.TheImpl.Goals as goal

pub next-tells : goal.next-tells
next-tells g c = record { bound = c.ensures.bound; bytes = λ traffic may. c.ensures.bytes traffic.taken traffic.given may }

pub name-tells : goal.name-tells
name-tells g c = λ traffic may.
    names_bytes c.args.token traffic (MayHave c.new.self.now.kept.slots) (c.ensures.bytes traffic.taken traffic.given may)
