use Rattle.sr_resp.proofs.DecodingLemmas.{none-weaker}
use Rattle.sr_check.proofs.ReadLemmas.{no_bulk}
use Rattle.sr_check.proofs.read.bulk.Goals as goal

pub returns-clause-none : goal.returns-clause-none
returns-clause-none c =
    none-weaker c.front.result (λ none string after has. no_bulk c.args.bytes.now c.in_ok-len.after.now string after
    c.in_ok-len.len c.in_ok-len.ensures.found none has)
    c.front.ensures.none
