use Rattle.std.proofs.Common.{◌≡◌, take}
use Rattle.std.specs.List.{flat_map}
use Rattle.sr_live.specs.Looked.{gone_of}
use Rattle.sr_live.proofs.snapshot.gone_rows.Given as goal

abbrev pub invariant-loop-row : goal.invariant-loop-row
invariant-loop-row l = l.list.items ≡ flat_map gone_of (take l.row-index l.rows)
