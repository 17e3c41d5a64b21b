use Rattle.std.proofs.Common.{arith, rules}
use Rattle.sr_run.proofs.workers.run_workers.Goals as goal

pub run_over-requires-clause-few : goal.run_over-requires-clause-few
run_over-requires-clause-few g c κs within = omega arith

pub returns-clause-count : goal.returns-clause-count
returns-clause-count g c = search rules
