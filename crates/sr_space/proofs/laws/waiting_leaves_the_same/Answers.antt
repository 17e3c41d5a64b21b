use Rattle.sr_space.proofs.WaitingLaws.{executed-keys}
use Rattle.sr_space.proofs.laws.waiting_leaves_the_same.Goals as goal

pub returns : goal.returns
returns c = executed-keys
