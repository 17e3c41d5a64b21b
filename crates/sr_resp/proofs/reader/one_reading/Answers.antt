use Rattle.sr_resp.proofs.StreamLemmas.{one_reading}
use Rattle.sr_resp.proofs.reader.one_reading.Goals as goal

pub returns : goal.returns
returns c = one_reading
