use Rattle.sr_waiters.specs.Layout.{AreDueAmong, shown_reads}
use Rattle.sr_waiters.proofs.waiters.soonest_of.Given as goal

abbrev pub invariant-loop-read : goal.invariant-loop-read
invariant-loop-read l = AreDueAmong l.soonest (shown_reads l.read-iterator) (shown_reads l.reads.entries)
