use Rattle.std.proofs.Common.{length}
use Rattle.sr_space.proofs.commands.xreadgroup.+read_all.Given as goal

abbrev pub decreases-read_all : goal.decreases-read_all
decreases-read_all l = length l.streams.now
