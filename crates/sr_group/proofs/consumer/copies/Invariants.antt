use Rattle.std.proofs.Common.{◌≡◌, take}
use Rattle.sr_group.proofs.consumer.copies.Given as goal

abbrev pub invariant-loop-consumer : goal.invariant-loop-consumer
invariant-loop-consumer l = l.list.items ≡ take l.consumer-index l.consumers
