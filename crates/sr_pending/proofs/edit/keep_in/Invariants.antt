use Rattle.std.proofs.Common.{◌≡◌, ℕ, not}
use Rattle.std.specs.VecDeque.{deque_capacity, deque_len}
use Rattle.sr_pending.specs.Pending.{is_same_name}
use Rattle.sr_pending.specs.steps.Slots.{nack_at}
use Rattle.sr_pending.proofs.Changing.{Kept}
use Rattle.sr_pending.proofs.edit.keep_in.Given as goal

abbrev pub invariant-loop-at : goal.invariant-loop-at
invariant-loop-at l =
    Kept (λ (slot : ℕ). not (is_same_name (nack_at l.slab slot).owner l.fn.owner)) l.at l.fn.closed.items l.closed.items
    × (deque_len l.closed ≡ deque_len l.fn.closed)
    × (deque_capacity l.closed ≡ deque_capacity l.fn.closed)
