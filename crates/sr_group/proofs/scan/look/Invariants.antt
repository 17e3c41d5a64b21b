use Rattle.std.proofs.Common.{length}
use Rattle.sr_group.specs.steps.Scanning.{IsLooked}
use Rattle.sr_group.proofs.scan.look.Given as goal

abbrev pub invariant-loop-left : goal.invariant-loop-left
invariant-loop-left l = IsLooked l.call.claim l.call.claimer.now l.call.moment l.call.entries.now.entries l.count l.initial.rest l.ids.items l.left l.rest

abbrev pub decreases-loop-left : goal.decreases-loop-left
decreases-loop-left l = length l.rest
