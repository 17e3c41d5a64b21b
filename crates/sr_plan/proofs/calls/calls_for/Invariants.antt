use Rattle.std.proofs.Common.{◌≡◌, take}
use Rattle.sr_plan.specs.Calls.{calls_for}
use Rattle.sr_plan.proofs.calls.calls_for.Given as goal

abbrev pub invariant-loop-batch : goal.invariant-loop-batch
invariant-loop-batch l =
    l.calls.items ≡ calls_for l.snapshot.key l.snapshot.group (take l.batch-index l.batches)
