use Rattle.std.proofs.Common.{◌≡◌, rules}
use Rattle.sr_policy.specs.Same.{same_rates, rates_decide}
use Rattle.sr_policy.proofs.rates.RatesPartialEq.eq.Goals as goal

pub returns-clause-exact : goal.returns-clause-exact
returns-clause-exact c =
    let value : c.eq.result ≡ same_rates c.args.self.now c.args.other.now = search rules in
    rw value (rates_decide c.args.self.now c.args.other.now)
