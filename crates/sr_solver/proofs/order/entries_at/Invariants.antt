use Rattle.std.proofs.Common.{◌≡◌, take, get_or}
use Rattle.std.specs.Prelude.{map}
use Rattle.sr_solver.proofs.order.entries_at.Given as goal

abbrev pub invariant-loop-place : goal.invariant-loop-place
invariant-loop-place l = l.entries.items ≡ map (λ place. get_or l.order place 0) (take l.place-index l.places)
