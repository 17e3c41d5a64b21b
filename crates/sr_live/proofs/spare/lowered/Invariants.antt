use Rattle.std.proofs.Common.{◌≡◌, map, take}
use Rattle.sr_live.specs.Spare.{spared}
use Rattle.sr_live.proofs.spare.lowered.Given as goal

abbrev pub invariant-loop-consumer : goal.invariant-loop-consumer
invariant-loop-consumer l = l.list.items ≡ map (spared l.spare) (take l.consumer-index l.live)
