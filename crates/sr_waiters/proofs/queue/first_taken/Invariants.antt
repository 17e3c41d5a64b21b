use Rattle.std.proofs.Common.{◌≡◌, [], take}
use Rattle.sr_waiters.specs.Queue.{taken}
use Rattle.sr_waiters.proofs.queue.first_taken.Given as goal

abbrev pub invariant-loop-place : goal.invariant-loop-place
invariant-loop-place g l = taken (take l.place l.slots) ≡ []
