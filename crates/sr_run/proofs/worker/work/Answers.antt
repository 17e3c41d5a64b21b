use Rattle.std.proofs.Common.{arith}
use Rattle.std.proofs.lemmas.Grind.{common_steps}
use Rattle.sr_run.proofs.worker.work.Goals as goal

pub returns-clause-share : goal.returns-clause-share
returns-clause-share g c = grind (arith, common_steps)
