use Rattle.std.proofs.Common.{◌≡◌, ◌++◌, length}
use Rattle.std.specs.List.{All, flat_map}
use Rattle.sr_resp.specs.{array_header}
use Rattle.sr_check.specs.{AreTold, price_answer}
use Rattle.sr_plan.proofs.reply.prices_reply.Given as goal

abbrev pub invariant-loop-consumer : goal.invariant-loop-consumer
invariant-loop-consumer l = record {
  written : l.draft ++ flat_map price_answer l.prices
      ≡ array_header (length l.initial.prices) ++ flat_map price_answer l.initial.prices;
  told : All (λ own. AreTold own.1) l.prices;
}

abbrev pub decreases-loop-consumer : goal.decreases-loop-consumer
decreases-loop-consumer l = length l.prices
