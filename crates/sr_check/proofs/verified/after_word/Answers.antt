use Rattle.sr_resp.specs.{array_header, bulk_string}
use Rattle.sr_resp.proofs.DecodingLemmas.{none-weaker}
use Rattle.sr_check.proofs.BeginsLemmas.{Begins-rest}
use Rattle.sr_check.proofs.verified.after_word.Goals as goal

pub returns-clause-none : goal.returns-clause-none
returns-clause-none c =
    none-weaker c.after_bulk.result (λ none after is.
    none after (Begins-rest c.args.bytes.now c.in_ok-text.text.now after (array_header c.args.items) (bulk_string
    c.args.word.now) c.in_ok-text.ensures.found is))
    c.after_bulk.ensures.none
