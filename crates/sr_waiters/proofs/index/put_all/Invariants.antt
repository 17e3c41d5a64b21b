use Rattle.std.proofs.Common.{drop}
use Rattle.sr_waiters.specs.Index.{Changes, changed, sessions_by, with_session}
use Rattle.sr_waiters.specs.Waiters.{Key, has_key}
use Rattle.sr_waiters.proofs.index.put_all.Given as goal

abbrev pub invariant-loop-stream : goal.invariant-loop-stream
invariant-loop-stream g l =
    Changes (with_session l.session) (drop l.stream-index l.streams) (λ (key : Key). changed (with_session l.session) (has_key key l.streams) (sessions_by l.fn.index key)) l.index
