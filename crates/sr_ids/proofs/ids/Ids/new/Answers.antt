use Rattle.std.proofs.Common.{rules}
use Rattle.sr_ids.proofs.ids.Ids.new.Goals as goal

pub returns : goal.returns
returns c = search rules
