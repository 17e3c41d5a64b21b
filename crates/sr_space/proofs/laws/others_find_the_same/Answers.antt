use Rattle.sr_space.proofs.ReaderLaws.{finds-others}
use Rattle.sr_space.proofs.laws.others_find_the_same.Goals as goal

pub returns : goal.returns
returns c = finds-others
