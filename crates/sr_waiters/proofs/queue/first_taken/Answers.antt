use Rattle.std.proofs.Common.{◌≡◌, None, sym, ◌∙◌}
use Rattle.sr_waiters.proofs.QueueLemmas.{blank-more, none-from}
use Rattle.sr_waiters.proofs.queue.first_taken.Goals as goal

pub loop-place-preserved : goal.loop-place-preserved
loop-place-preserved g c =
    let d = c.index-slots-place.result in
    let empty : d ≡ None = none-from d (sym c.is_some.ensures ∙ c.if-is_some.false) in
    blank-more c.loop-place.place c.args.slots.now d c.loop-place-test.true (sym c.index-slots-place.is ∙ empty) c.loop-place.invariant
