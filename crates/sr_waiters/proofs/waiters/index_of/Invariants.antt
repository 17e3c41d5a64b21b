use Rattle.sr_waiters.specs.Index.{AreIndexed}
use Rattle.sr_waiters.specs.Layout.{shown_reads}
use Rattle.sr_waiters.proofs.waiters.index_of.Given as goal

abbrev pub invariant-loop-session : goal.invariant-loop-session
invariant-loop-session l = AreIndexed l.index (shown_reads l.session-iterator) (shown_reads l.reads.entries)
