use Rattle.std.proofs.Common.{◌≡◌, take}
use Rattle.sr_space.proofs.snap.names.copies_of.Given as goal

abbrev pub invariant-loop-name : goal.invariant-loop-name
invariant-loop-name l = l.list.items ≡ take l.name-index l.names
