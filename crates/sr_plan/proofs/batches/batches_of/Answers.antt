use Rattle.std.proofs.Common.{◌≡◌, suc, ◌∷◌, length, map, ap, arith}
use Rattle.std.specs.Vec.Iter.{into_iter_items}
use Rattle.sr_plan.proofs.BatchesLemmas.{batches-more, left-first, left-others, left-within}
use Rattle.sr_plan.proofs.batches.batches_of.Goals as goal

pub loop-ids-preserved : goal.loop-ids-preserved
loop-ids-preserved c =
    let ids = map (λ entry. entry.id) c.args.snapshot.now.stranded in
    let assign = c.args.assign.now in
    let live = c.live-live.result.now in
    let number = c.loop-ids.number in
    let all = into_iter_items c.loop-ids.ids-iterator in
    let rest = into_iter_items c.next.new.self in
    let is : all ≡ c.in-Some.ids ∷ rest = c.in-Some.ensures.steps.0 in
    let len : length all ≡ suc (length rest) = ap length is in
    let left = c.loop-ids.invariant.1 in (
      batches-more ids assign number live c.index-live-number.result c.in-Some.ids.items c.loop-ids.batches.items
          c.add_batch.new.batches.items _ (left-within ids assign number (length live) c.in-Some.ids rest all is left)
          (left-first ids assign number (length live) c.in-Some.ids rest all is left)
          c.loop-ids.invariant.0 c.in_ok-add_batch.ensures,
      left-others ids assign number (length live) c.in-Some.ids rest all is left,
      omega (arith, len, c.loop-ids.invariant.2, c.in-Some.ensures.steps.1),
    )
