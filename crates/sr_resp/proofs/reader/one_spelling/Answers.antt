use Rattle.sr_resp.proofs.StreamLemmas.{one_spelling}
use Rattle.sr_resp.proofs.reader.one_spelling.Goals as goal

pub returns : goal.returns
returns c = one_spelling
