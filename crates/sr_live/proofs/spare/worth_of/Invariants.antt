use Rattle.std.proofs.Common.{◌≡◌, ◌+◌, ◌^◌, ◌<◌, drop, map}
use Rattle.sr_live.specs.Spare.{in_64_bits, worth_of}
use Rattle.sr_live.proofs.spare.worth_of.Given as goal

abbrev pub invariant-loop-consumer : goal.invariant-loop-consumer
invariant-loop-consumer l = record {
  left : in_64_bits (l.worth + worth_of l.acks (map (λ move. (move.0, move.1.now)) l.moves)
      (drop l.consumer-index l.live) l.prices)
      ≡ in_64_bits (worth_of l.acks (map (λ move. (move.0, move.1.now)) l.moves) l.live l.initial.prices);
  fits : l.worth < 2 ^ 64;
}
