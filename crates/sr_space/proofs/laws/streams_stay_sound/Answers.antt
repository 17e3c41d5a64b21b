use Rattle.sr_space.proofs.LawLemmas.{AreStreams-at_once}
use Rattle.sr_space.proofs.laws.streams_stay_sound.Goals as goal

pub returns : goal.returns
returns c = AreStreams-at_once
