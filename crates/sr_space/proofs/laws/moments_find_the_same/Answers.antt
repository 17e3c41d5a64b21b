use Rattle.sr_space.proofs.ReaderLaws.{finds-moment}
use Rattle.sr_space.proofs.laws.moments_find_the_same.Goals as goal

pub returns : goal.returns
returns c = finds-moment
