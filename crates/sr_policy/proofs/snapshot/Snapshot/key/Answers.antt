use Rattle.std.proofs.Common.{rules}
use Rattle.sr_policy.proofs.snapshot.Snapshot.key.Goals as goal

pub returns : goal.returns
returns c = search rules
