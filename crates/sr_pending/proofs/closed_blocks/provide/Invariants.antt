use Rattle.std.proofs.Common.{◌≡◌, ◌≤◌, max}
use Rattle.std.specs.VecDeque.{deque_len}
use Rattle.sr_pending.specs.steps.Blocks.{AreSpare}
use Rattle.sr_pending.proofs.closed_blocks.provide.Given as goal

abbrev pub invariant-loop-made : goal.invariant-loop-made
invariant-loop-made g l = AreSpare l.spare.items × (deque_len l.spare ≡ l._made) × (deque_len l.fn.spare ≤ deque_len l.spare) × (deque_len l.spare ≤ max l.blocks (deque_len l.fn.spare))
