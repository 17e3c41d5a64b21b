use Rattle.std.proofs.Common.{◌≡◌, take}
use Rattle.sr_live.proofs.snapshot.copies.Given as goal

abbrev pub invariant-loop-name : goal.invariant-loop-name
invariant-loop-name l = l.list.items ≡ take l.name-index l.names
