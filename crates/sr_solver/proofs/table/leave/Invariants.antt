use Rattle.sr_transport.specs.{consumers}
use Rattle.sr_solver.specs.Table.{IsWithout, IsRowChanged}
use Rattle.sr_solver.proofs.table.leave.Given as goal

abbrev pub invariant-loop-to : goal.invariant-loop-to
invariant-loop-to l = IsRowChanged (consumers l.problem) l.from l.to (λ to. IsWithout l.entry) l.initial.pairs l.pairs
