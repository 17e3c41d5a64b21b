use Rattle.std.proofs.Common.{rules}
use Rattle.sr_bytes.proofs.packed.packed_len.Goals as goal

pub returns : goal.returns
returns c = search rules
