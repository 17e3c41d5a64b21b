use Rattle.std.proofs.Common.{◌≡◌, ◌++◌, None, map, take}
use Rattle.sr_policy.proofs.costs.add_none.Given as goal

abbrev pub invariant-loop-consumer : goal.invariant-loop-consumer
invariant-loop-consumer l = l.costs.items ≡ l.initial.costs.items ++ map (λ _. None) (take l._consumer-index l.live)
