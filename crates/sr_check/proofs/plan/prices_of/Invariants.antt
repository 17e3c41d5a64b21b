use Rattle.std.proofs.Common.{take}
use Rattle.sr_check.proofs.PriceLemmas.{ArePriced}
use Rattle.sr_check.proofs.plan.prices_of.Given as goal

abbrev pub invariant-loop-consumer : goal.invariant-loop-consumer
invariant-loop-consumer l = ArePriced (take l.consumer-index l.live) l.initial.left l.prices.items l.left
