use Rattle.sr_waiters.specs.Queue.{AreNumbered}
use Rattle.sr_waiters.proofs.queue.number.Given as goal

abbrev pub invariant-loop-place : goal.invariant-loop-place
invariant-loop-place g l = AreNumbered l.slots l.place l.fn.places l.places
