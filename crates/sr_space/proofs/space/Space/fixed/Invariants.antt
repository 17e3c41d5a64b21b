use Rattle.std.proofs.Common.{◌≡◌, map, take}
use Rattle.sr_space.specs.Blocking.{fixed_position}
use Rattle.sr_space.proofs.space.Space.fixed.Given as goal

abbrev pub invariant-loop-key : goal.invariant-loop-key
invariant-loop-key l = l.list.items ≡ map (fixed_position l.self) (take l.key-index l.streams)
