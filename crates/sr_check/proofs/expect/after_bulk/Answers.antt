use Rattle.std.proofs.Common.{rules, ◌≢◌, ◌<◌, ◌^◌, length}
use Rattle.sr_resp.specs.{Bulk}
use Rattle.sr_check.proofs.BeginsLemmas.{other_part}
use Rattle.sr_check.proofs.expect.after_bulk.Goals as goal

pub returns-else-eq-clause-none : goal.returns-else-eq-clause-none
returns-else-eq-clause-none c = λ after is.
    let read = c.in_ok-read.read.now in
    let string = c.args.string.now in
    let fits : length string < 2 ^ 64 = search rules in
    let other : read ≢ string = search rules in
    other_part c.args.bytes.now c.in_ok-read.after.now after (Bulk read) (Bulk string) fits (λ same. other (cc same))
    c.in_ok-read.ensures.found is
