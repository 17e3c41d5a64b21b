use Rattle.std.proofs.Common.{◌≡◌, take}
use Rattle.std.specs.List.{flat_map}
use Rattle.sr_live.specs.Looked.{stranded_by}
use Rattle.sr_live.proofs.snapshot.stranded_rows.Given as goal

abbrev pub invariant-loop-row : goal.invariant-loop-row
invariant-loop-row l = l.list.items ≡ flat_map (stranded_by l.policy) (take l.row-index l.rows)
