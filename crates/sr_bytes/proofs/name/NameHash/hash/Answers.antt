use Rattle.std.proofs.Common.{rules}
use Rattle.sr_bytes.proofs.name.NameHash.hash.Goals as goal

pub returns : goal.returns
returns g c = search rules
