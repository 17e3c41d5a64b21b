use Rattle.std.specs.Prelude.{◌≡◌, ◌<◌, ◌⊎◌}
use Rattle.sr_hub.specs.Said.{IsTimed}
use Rattle.sr_hub.specs.steps.Left.{left}
use Rattle.sr_hub.specs.steps.Moves.{Moves}
use Rattle.sr_hub.proofs.answering.answer_waiting.Given as goal

abbrev pub invariant-loop-alloc : goal.invariant-loop-alloc
invariant-loop-alloc l = record {
  moves : Moves l.fn.book l.fn.connection l.book l.connection;
  timed : IsTimed l.moment l.fn.book l.book;
  goes : (l.connection ≡ l.fn.connection) ⊎ (left l.connection < left l.fn.connection);
}

abbrev pub decreases-loop-alloc : goal.decreases-loop-alloc
decreases-loop-alloc l = left l.connection
