use Rattle.std.proofs.Common.{rules}
use Rattle.sr_args.proofs.table.is_counted.Goals as goal

pub returns : goal.returns
returns c = search rules
