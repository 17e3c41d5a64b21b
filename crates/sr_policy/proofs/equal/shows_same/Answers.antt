use Rattle.std.proofs.Common.{rules}
use Rattle.sr_policy.proofs.equal.shows_same.Goals as goal

pub returns-then-eq-6 : goal.returns-then-eq-6
returns-then-eq-6 c = search rules
