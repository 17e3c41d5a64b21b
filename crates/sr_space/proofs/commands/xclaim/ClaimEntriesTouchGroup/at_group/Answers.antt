use Rattle.std.proofs.Common.{rules}
use Rattle.sr_space.proofs.commands.xclaim.ClaimEntriesTouchGroup.at_group.Goals as goal

pub returns-clause-group : goal.returns-clause-group
returns-clause-group c = search rules
