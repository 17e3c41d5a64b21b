use Rattle.sr_live.proofs.BoundsLemmas.{shown_while_filled}
use Rattle.sr_live.proofs.bounds.still_cheapest.Goals as goal

pub returns : goal.returns
returns c = shown_while_filled
