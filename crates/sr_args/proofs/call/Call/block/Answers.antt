use Rattle.std.proofs.Common.{rules}
use Rattle.sr_args.proofs.call.Call.block.Goals as goal

pub returns-in-Xreadgroup : goal.returns-in-Xreadgroup
returns-in-Xreadgroup c = search rules
