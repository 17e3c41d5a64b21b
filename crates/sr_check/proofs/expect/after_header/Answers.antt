use Rattle.std.proofs.Common.{rules, ◌≡◌, ◌<◌, ◌^◌, arith}
use Rattle.sr_resp.specs.Reply.{Array}
use Rattle.sr_check.proofs.BeginsLemmas.{other_part}
use Rattle.sr_check.proofs.expect.after_header.Goals as goal

pub returns-else-n-items-clause-none : goal.returns-else-n-items-clause-none
returns-else-n-items-clause-none c = λ after is.
    let n = c.in_ok-n.n in
    let items = c.args.items in
    let fits : items < 2 ^ 64 = search rules in
    other_part c.args.bytes.now c.in_ok-n.after.now after (Array n) (Array items) fits
    (λ same. let e : n ≡ items = cc same in absurd (omega (arith, e, c.if-n-items.false))) c.in_ok-n.ensures.found is
