use Rattle.std.proofs.Common.{rules}
use Rattle.sr_ids.proofs.ids.Ids.as_slice.Goals as goal

pub returns : goal.returns
returns c = search rules
