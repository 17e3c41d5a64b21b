use Rattle.sr_live.proofs.NearLemmas.{spared-fits}
use Rattle.sr_live.proofs.bounds.fits_with_spare.Goals as goal

pub returns : goal.returns
returns c = spared-fits
