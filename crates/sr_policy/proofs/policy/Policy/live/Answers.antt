use Rattle.std.proofs.Common.{rules}
use Rattle.sr_policy.proofs.policy.Policy.live.Goals as goal

pub returns : goal.returns
returns c = search rules
