use Rattle.std.proofs.Common.{◌≡◌, take}
use Rattle.sr_policy.specs.steps.Rows.{row_by}
use Rattle.sr_policy.proofs.rows.row_of.Given as goal

abbrev pub invariant-loop-consumer : goal.invariant-loop-consumer
invariant-loop-consumer l = l.row.items ≡ row_by (take l.consumer-index l.consumers) l.rates
