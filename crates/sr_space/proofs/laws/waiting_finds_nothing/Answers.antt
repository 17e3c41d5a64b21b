use Rattle.sr_space.proofs.WaitingLaws.{waiting-nothing}
use Rattle.sr_space.proofs.laws.waiting_finds_nothing.Goals as goal

pub returns : goal.returns
returns c = λ keys moment later call again deadline. waiting-nothing keys moment later call again deadline
