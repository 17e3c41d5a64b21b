use Rattle.std.proofs.Common.{rules}
use Rattle.sr_policy.proofs.policy.first_value.Goals as goal

pub loop-name-preserved : goal.loop-name-preserved
loop-name-preserved c = search rules
