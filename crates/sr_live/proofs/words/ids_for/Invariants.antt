use Rattle.std.proofs.Common.{◌≡◌, map, take}
use Rattle.sr_live.specs.Words.{ids_to}
use Rattle.sr_live.proofs.words.ids_for.Given as goal

abbrev pub invariant-loop-id : goal.invariant-loop-id
invariant-loop-id l = l.ids.items ≡ ids_to (map (λ move. (move.0, move.1.now)) (take l.id-index l.moves)) l.name
