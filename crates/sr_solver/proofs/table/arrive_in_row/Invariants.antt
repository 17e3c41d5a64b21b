use Rattle.sr_transport.specs.{consumers}
use Rattle.sr_transport.specs.plain.Problem.{cost_at, cost_of}
use Rattle.sr_solver.specs.Table.{IsLowered, IsRowChanged}
use Rattle.sr_solver.proofs.GapLemmas.{looked_at}
use Rattle.sr_solver.proofs.table.arrive_in_row.Given as goal

abbrev pub invariant-loop-pair : goal.invariant-loop-pair
invariant-loop-pair l =
    IsRowChanged (consumers l.problem) l.to (looked_at l.row.pairs.now l.pair-index)
    (λ next. IsLowered l.row.number (cost_of l.problem l.row.number l.to) (cost_at l.problem l.row.number next))
    l.initial.pairs l.pairs
