use Rattle.std.proofs.Common.{◌≡◌, ◌++◌, take, pos}
use Rattle.std.specs.List.{flat_map}
use Rattle.sr_resp.specs.{integer}
use Rattle.sr_plan.proofs.reply.write_prices.Given as goal

abbrev pub invariant-loop-price : goal.invariant-loop-price
invariant-loop-price l =
    l.draft ≡ l.initial.draft ++ flat_map (λ price. integer (pos price)) (take l.price-index l.prices)
