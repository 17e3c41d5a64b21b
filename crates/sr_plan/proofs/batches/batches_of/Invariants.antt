use Rattle.std.proofs.Common.{◌≡◌, ◌++◌, drop, length, map}
use Rattle.std.specs.Vec.Iter.{into_iter_items, into_iter_len}
use Rattle.sr_plan.specs.Batches.{batches_from}
use Rattle.sr_plan.specs.steps.Dealing.{AreLeft}
use Rattle.sr_plan.proofs.batches.batches_of.Given as goal

abbrev pub invariant-loop-ids : goal.invariant-loop-ids
invariant-loop-ids l =
    let ids = map (λ entry. entry.id) l.snapshot.stranded in
    (l.batches.items ++ batches_from ids l.assign l.number (drop l.number l.live) ≡ batches_from ids l.assign 0 l.live)
    × AreLeft ids l.assign l.number (length l.live) (into_iter_items l.ids-iterator)
    × (into_iter_len l.ids-iterator ≡ length (into_iter_items l.ids-iterator))
