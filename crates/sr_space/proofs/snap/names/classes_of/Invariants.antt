use Rattle.std.proofs.Common.{◌≡◌, drop, map}
use Rattle.sr_space.specs.Snap.{in_order}
use Rattle.sr_space.proofs.snap.names.classes_of.Given as goal

abbrev pub invariant-loop-place : goal.invariant-loop-place
invariant-loop-place l = l.list.items ≡ in_order (map (λ entry. entry.class) (drop l.place l.entries))
