use Rattle.std.proofs.Common.{None}
use Rattle.sr_book.specs.Server.{AreBelow, Session}
use Rattle.sr_book.proofs.SessionLemmas.{AreRising-append}
use Rattle.sr_book.proofs.sessions.Sessions.open.Goals as goal

pub invariant_of-self-2 : goal.invariant_of-self-2
invariant_of-self-2 c =
    let sessions = c.self.inside.list.items in
    let session : Session = record { number = c.args.number; letter = None } in
    let fresh : AreBelow c.args.number sessions = rw c.self.view_is c.requires in
    rw c.in_ok-push.ensures.items (AreRising-append sessions session c.self.invariant fresh)
