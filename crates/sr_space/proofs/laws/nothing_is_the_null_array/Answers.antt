use Rattle.sr_space.proofs.WaitingLaws.{null-read, null-read_group}
use Rattle.sr_space.proofs.laws.nothing_is_the_null_array.Goals as goal

pub returns : goal.returns
returns c = record { xread = null-read; xreadgroup = null-read_group }
