use Rattle.std.proofs.Common.{rules}
use Rattle.sr_policy.proofs.snapshot_rules.are_gone_owners.Goals as goal

pub returns : goal.returns
returns c = search rules
