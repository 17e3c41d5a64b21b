use Rattle.sr_peer.proofs.RequestLemmas.{is-request}
use Rattle.sr_peer.proofs.request.requests_are_read.Goals as goal

pub returns : goal.returns
returns c = is-request
