use Rattle.std.proofs.Common.{rules}
use Rattle.sr_ids.proofs.parse.parse_strict.Goals as goal

pub returns-clause-found : goal.returns-clause-found
returns-clause-found c = search rules

pub returns-clause-none : goal.returns-clause-none
returns-clause-none c = search rules
