use Rattle.std.proofs.Common.{rules, arith}
use Rattle.std.proofs.lemmas.Grind.{common_steps}
use Rattle.sr_events.proofs.ring.begin_to_wait.Goals as goal

pub returns-then-not-index-clause-value : goal.returns-then-not-index-clause-value
returns-then-not-index-clause-value c = search rules

pub returns-clause-value : goal.returns-clause-value
returns-clause-value c = grind (arith, common_steps)
