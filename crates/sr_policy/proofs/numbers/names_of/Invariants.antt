use Rattle.std.proofs.Common.{◌≡◌, take, map}
use Rattle.sr_policy.proofs.numbers.names_of.Given as goal

abbrev pub invariant-loop-name : goal.invariant-loop-name
invariant-loop-name l = l.names.items ≡ map (λ pair. pair.0) (take l.name-index l.pairs)
