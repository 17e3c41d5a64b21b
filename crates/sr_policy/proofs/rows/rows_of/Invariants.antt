use Rattle.std.proofs.Common.{◌≡◌, take}
use Rattle.sr_policy.specs.steps.Rows.{rows_by}
use Rattle.sr_policy.proofs.rows.rows_of.Given as goal

abbrev pub invariant-loop-rates : goal.invariant-loop-rates
invariant-loop-rates l = l.rows.items ≡ rows_by l.consumers (take l.rates-index l.classes)
