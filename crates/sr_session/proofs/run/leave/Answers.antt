use Rattle.std.proofs.Common.{rules}
use Rattle.sr_session.proofs.run.leave.Goals as goal

pub returns-clause-left : goal.returns-clause-left
returns-clause-left g c = search rules
