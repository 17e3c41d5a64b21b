use Rattle.std.proofs.Common.{◌≡◌, map, option_and_then, option_map, take}
use Rattle.sr_policy.specs.Rules.{value_at}
use Rattle.sr_policy.proofs.policy.rates_in.Given as goal

abbrev pub invariant-loop-column : goal.invariant-loop-column
invariant-loop-column l =
    l.rates.items
    ≡ map (λ column. option_and_then (value_at column.consumer.now) (option_map (λ row. row.rates) l.row))
    (take l.column-index l.columns)
