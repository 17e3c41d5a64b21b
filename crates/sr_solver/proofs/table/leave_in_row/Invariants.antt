use Rattle.sr_transport.specs.{consumers}
use Rattle.sr_solver.specs.Table.{IsWithout, IsRowChanged}
use Rattle.sr_solver.proofs.GapLemmas.{looked_at}
use Rattle.sr_solver.proofs.table.leave_in_row.Given as goal

abbrev pub invariant-loop-pair : goal.invariant-loop-pair
invariant-loop-pair l =
    IsRowChanged (consumers l.problem) l.from (looked_at l.row.pairs.now l.pair-index) (λ to. IsWithout l.row.number)
    l.initial.pairs l.pairs
