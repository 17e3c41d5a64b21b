use Rattle.sr_live.proofs.BoundsLemmas.{worse_by_gap}
use Rattle.sr_live.proofs.bounds.at_most_worse.Goals as goal

pub returns : goal.returns
returns c = worse_by_gap
