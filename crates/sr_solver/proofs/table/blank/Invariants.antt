use Rattle.std.proofs.Common.{◌≡◌}
use Rattle.sr_transport.specs.{consumers}
use Rattle.sr_solver.specs.Table.{no_entry, IsRowChanged}
use Rattle.sr_solver.proofs.table.blank.Given as goal

abbrev pub invariant-loop-to : goal.invariant-loop-to
invariant-loop-to l = IsRowChanged (consumers l.problem) l.from l.to (λ to old new. new ≡ no_entry) l.initial.pairs l.pairs
