use Rattle.std.proofs.Common.{rules}
use Rattle.sr_space.proofs.snap.are_too_many.Goals as goal

pub loop-nack-init : goal.loop-nack-init
loop-nack-init c = search rules
