use Rattle.std.proofs.Common.{◌≡◌, ◌++◌, drop, map}
use Rattle.sr_live.specs.Words.{lives_words}
use Rattle.sr_live.proofs.words.push_lives.Given as goal

abbrev pub invariant-loop-consumer : goal.invariant-loop-consumer
invariant-loop-consumer l =
    l.words.items ++ lives_words (map (λ move. (move.0, move.1.now)) l.moves) (drop l.consumer-index l.live) l.prices
    ≡ l.initial.words.items ++ lives_words (map (λ move. (move.0, move.1.now)) l.moves) l.live l.initial.prices
