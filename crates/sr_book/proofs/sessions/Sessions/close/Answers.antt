use Rattle.sr_book.proofs.SessionLemmas.{AreRising-without}
use Rattle.sr_book.proofs.sessions.Sessions.close.Goals as goal

pub invariant_of-self : goal.invariant_of-self
invariant_of-self c = rw c.close_in.ensures (AreRising-without c.args.number _ c.self.invariant)
