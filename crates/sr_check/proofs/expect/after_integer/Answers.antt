use Rattle.std.proofs.Common.{◌≡◌, pos, arith}
use Rattle.sr_resp.specs.Reply.{Int}
use Rattle.sr_check.proofs.BeginsLemmas.{other_part}
use Rattle.sr_check.proofs.expect.after_integer.Goals as goal

pub returns-else-read-n-clause-none : goal.returns-else-read-n-clause-none
returns-else-read-n-clause-none c = λ after is.
    let read = c.in_ok-read.read in
    let n = c.args.n in
    other_part c.args.bytes.now c.in_ok-read.after.now after (Int (pos read)) (Int (pos n)) c.requires
    (λ same. let e : read ≡ n = cc same in absurd (omega (arith, e, c.if-read-n.false))) c.in_ok-read.ensures.found is
