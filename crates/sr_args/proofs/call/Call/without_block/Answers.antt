use Rattle.std.proofs.Common.{rules}
use Rattle.sr_args.proofs.call.Call.without_block.Goals as goal

pub returns-in_default : goal.returns-in_default
returns-in_default c = search rules
