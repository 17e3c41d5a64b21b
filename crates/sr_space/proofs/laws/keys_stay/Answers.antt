use Rattle.sr_space.proofs.LawLemmas.{IsSome-at_once}
use Rattle.sr_space.proofs.laws.keys_stay.Goals as goal

pub returns : goal.returns
returns c = IsSome-at_once
