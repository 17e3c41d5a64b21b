use Rattle.std.proofs.Common.{◌≡◌, All, map, take}
use Rattle.sr_policy.specs.steps.Rows.{IsColumn}
use Rattle.sr_policy.proofs.rows.columns_of.Given as goal

abbrev pub invariant-loop-one : goal.invariant-loop-one
invariant-loop-one l = record {
  names : map (λ column. column.consumer.now) l.columns.items ≡ map (λ consumer. consumer.name) (take l.one-index l.live);
  places : All (IsColumn l.consumers) l.columns.items;
}
