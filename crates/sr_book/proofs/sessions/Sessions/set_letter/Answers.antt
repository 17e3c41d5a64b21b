use Rattle.sr_book.proofs.SessionLemmas.{AreRising-with_letter}
use Rattle.sr_book.proofs.sessions.Sessions.set_letter.Goals as goal

pub invariant_of-self : goal.invariant_of-self
invariant_of-self c = rw c.set_letter_in-self-inside.ensures (AreRising-with_letter c.args.number c.args.letter _ c.self.invariant)
