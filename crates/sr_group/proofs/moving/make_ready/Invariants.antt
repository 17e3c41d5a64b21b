use Rattle.std.proofs.Common.{◌≡◌, take}
use Rattle.sr_group.proofs.moving.make_ready.Given as goal

abbrev pub invariant-loop-one : goal.invariant-loop-one
invariant-loop-one l = l.readies.items ≡ take l.one-index l.moves
