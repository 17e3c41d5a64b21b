use Rattle.std.proofs.Common.{◌≡◌, map}
use Rattle.sr_policy.specs.Rules.{rate_of}
use Rattle.sr_policy.proofs.policy.Policy.rates_of.Given as goal

abbrev pub invariant-loop-class : goal.invariant-loop-class
invariant-loop-class l =
    l.list.items ≡ map (λ class. (class, map (λ consumer. rate_of l.self class consumer.name) l.live)) l.yielded
