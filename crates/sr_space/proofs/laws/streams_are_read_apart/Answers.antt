use Rattle.sr_space.proofs.ApartLaws.{finds-apart, finds-beside}
use Rattle.sr_space.proofs.laws.streams_are_read_apart.Goals as goal

pub returns : goal.returns
returns c = record { apart = finds-apart; beside = finds-beside }
