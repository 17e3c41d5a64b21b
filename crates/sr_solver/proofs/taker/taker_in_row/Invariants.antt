use Rattle.sr_solver.specs.Taker.{IsCheapest}
use Rattle.sr_solver.proofs.GapLemmas.{looked_at}
use Rattle.sr_solver.proofs.taker.taker_in_row.Given as goal

abbrev pub invariant-loop-pair : goal.invariant-loop-pair
invariant-loop-pair l =
    IsCheapest l.problem.columns l.problem.steps.now l.prices l.loads l.row.number
    (looked_at l.row.pairs.now l.pair-index) l.cheapest
