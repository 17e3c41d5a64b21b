use Rattle.std.proofs.Common.{None}
use Rattle.sr_book.proofs.OpenLemmas.{open-with_letter}
use Rattle.sr_book.proofs.machine.Machine.hear.Goals as goal

pub invariant_of-self : goal.invariant_of-self
invariant_of-self c = record {
  waiting_open = rw c.set_letter.ensures (open-with_letter _ None c.self.inside.sessions c.self.inside.waiters.list c.self.invariant.waiting_open);
  bound = c.requires.bound;
}
