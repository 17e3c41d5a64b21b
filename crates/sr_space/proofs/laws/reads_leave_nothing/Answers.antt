use Rattle.sr_space.proofs.ReaderLaws.{finds-still}
use Rattle.sr_space.proofs.laws.reads_leave_nothing.Goals as goal

pub returns : goal.returns
returns c = finds-still
