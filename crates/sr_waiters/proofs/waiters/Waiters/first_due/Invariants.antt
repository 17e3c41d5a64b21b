use Rattle.std.proofs.Common.{◌≡◌}
use Rattle.sr_waiters.specs.Layout.{shown_reads}
use Rattle.sr_waiters.specs.Waiters.{due_at}
use Rattle.sr_waiters.proofs.waiters.Waiters.first_due.Given as goal

abbrev pub invariant-loop-session : goal.invariant-loop-session
invariant-loop-session l = due_at l.moment (shown_reads l.session-iterator) ≡ due_at l.moment l.self.list
