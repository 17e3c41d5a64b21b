use Rattle.sr_live.proofs.ServerLemmas.{shown-same}
use Rattle.sr_live.proofs.server.shows_as_the_server.Goals as goal

pub returns : goal.returns
returns c = shown-same
