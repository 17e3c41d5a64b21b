use Rattle.sr_solver.specs.Members.{AreLookedThrough}
use Rattle.sr_solver.proofs.table.look_through.Given as goal

abbrev pub invariant-loop-place : goal.invariant-loop-place
invariant-loop-place l =
    AreLookedThrough l.problem l.placement.assign.items l.members l.row l.place l.from l.fn.pairs l.pairs
