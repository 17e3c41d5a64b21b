use Rattle.std.proofs.Common.{◌≡◌, map, take}
use Rattle.sr_space.specs.steps.Claiming.{move_for}
use Rattle.sr_space.proofs.commit.moves_of.Given as goal

abbrev pub invariant-loop-batch : goal.invariant-loop-batch
invariant-loop-batch l = l.moves.items ≡ map move_for (take l.batch-index l.batches)
