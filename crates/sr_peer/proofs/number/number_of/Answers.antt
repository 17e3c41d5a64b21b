use Rattle.sr_resp.proofs.DecodingLemmas.{number-none, number-one}
use Rattle.std.proofs.Common.{rules, ◌≡◌, ◌≢◌, decimal}
use Rattle.sr_peer.proofs.number.number_of.Goals as goal

pub returns-in_err-n-clause-none : goal.returns-in_err-n-clause-none
returns-in_err-n-clause-none c =
    rw c.from_residual.ensures (λ n small e. number-none c.args.digits.now n c.in_err-n.ensures.none small e)

pub returns-else-eq-clause-none : goal.returns-else-eq-clause-none
returns-else-eq-clause-none c = λ n small e.
    let own = number-one c.args.digits.now c.in_ok-n.n n c.in_ok-n.ensures.found small e in
    let text : c.as_bytes.result.now ≡ decimal c.in_ok-n.n = search rules in
    let other : c.as_bytes.result.now ≢ c.args.digits.now = search rules in
    other (cc (text, own))
