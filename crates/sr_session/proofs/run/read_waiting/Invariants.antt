use Rattle.std.proofs.Common.{◌≡◌, List, ◌++◌, length}
use Rattle.sr_resp.specs.{Words}
use Rattle.sr_session.specs.steps.Asked.{AreAsked}
use Rattle.sr_session.proofs.AskedLemmas.{with_waiting}
use Rattle.sr_session.proofs.run.read_waiting.Given as goal

-- these requests are read, and those behind them wait
abbrev pub invariant-loop-words : goal.invariant-loop-words
invariant-loop-words l =
    (done : List Words) × AreAsked done l.asked.items × (l.fn.requests ≡ with_waiting (done ++ l.requests.waiting) l.requests)

abbrev pub decreases-loop-words : goal.decreases-loop-words
decreases-loop-words l = length l.requests.waiting
