use Rattle.sr_transport.specs.{consumers}
use Rattle.sr_transport.specs.plain.Problem.{cost_at, cost_of}
use Rattle.sr_solver.specs.Table.{IsLowered, IsRowChanged}
use Rattle.sr_solver.proofs.table.arrive.Given as goal

abbrev pub invariant-loop-next : goal.invariant-loop-next
invariant-loop-next l =
    IsRowChanged (consumers l.problem) l.to l.next
    (λ next. IsLowered l.entry (cost_of l.problem l.entry l.to) (cost_at l.problem l.entry next))
    l.initial.pairs l.pairs
