use Rattle.std.proofs.Common.{drop}
use Rattle.sr_waiters.specs.Index.{Changes, changed, sessions_by, without}
use Rattle.sr_waiters.specs.Waiters.{Key, has_key}
use Rattle.sr_waiters.proofs.index.take_all.Given as goal

abbrev pub invariant-loop-stream : goal.invariant-loop-stream
invariant-loop-stream g l =
    Changes (without l.session) (drop l.stream-index l.streams) (λ (key : Key). changed (without l.session) (has_key key l.streams) (sessions_by l.fn.index key)) l.index
