use Rattle.std.proofs.Common.{◌≡◌, ◌++◌, map, take}
use Rattle.sr_ids.specs.{spelling}
use Rattle.sr_live.proofs.words.push_ids.Given as goal

abbrev pub invariant-loop-id : goal.invariant-loop-id
invariant-loop-id l = l.words.items ≡ l.initial.words.items ++ map spelling (take l.id-index l.ids)
