use Rattle.sr_waiters.specs.Copying.{AreCopied}
use Rattle.sr_waiters.proofs.waiters.Waiters.copy.Given as goal

abbrev pub invariant-loop-session : goal.invariant-loop-session
invariant-loop-session l = AreCopied l.copy l.session-iterator l.self.list
