use Rattle.std.proofs.Common.{rules}
use Rattle.sr_args.proofs.same.same_name.Goals as goal

pub returns-in-Some-Some : goal.returns-in-Some-Some
returns-in-Some-Some c = search rules
