use Rattle.std.proofs.Common.{rules}
use Rattle.sr_dash.proofs.write.is_plain.Goals as goal

pub returns-then-byte-lt127 : goal.returns-then-byte-lt127
returns-then-byte-lt127 c = search rules
