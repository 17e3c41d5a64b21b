use Rattle.std.proofs.Common.{◌≡◌, ◌++◌, length}
use Rattle.std.specs.VecDeque.Iter.{deque_iter_rest}
use Rattle.sr_pending.specs.steps.Blocks.{held_in}
use Rattle.sr_pending.proofs.run.Run.next.Given as goal

abbrev pub invariant-loop-value : goal.invariant-loop-value
invariant-loop-value g l =
    let r = l.self-inside in
    l.fn.self ≡ deque_iter_rest r.first ++ held_in (deque_iter_rest r.middle) ++ deque_iter_rest r.last

abbrev pub decreases-loop-value : goal.decreases-loop-value
decreases-loop-value g l = length (deque_iter_rest l.self-inside.middle)
