use Rattle.std.proofs.Common.{◌≡◌, rules}
use Rattle.sr_policy.specs.Same.{same, same_decides}
use Rattle.sr_policy.proofs.equal.SnapshotPartialEq.eq.Goals as goal

pub returns-clause-exact : goal.returns-clause-exact
returns-clause-exact c =
    let value : c.shows_same.result ≡ same c.args.self.now c.args.other.now = search rules in
    rw value (same_decides c.args.self.now c.args.other.now)
