use Rattle.std.proofs.Common.{rules}
use Rattle.sr_solver.proofs.path.raise.Goals as goal

pub loop-consumer-preserved : goal.loop-consumer-preserved
loop-consumer-preserved c = search rules
