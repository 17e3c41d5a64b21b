use Rattle.std.proofs.Common.{◌≡◌, map, take}
use Rattle.std.specs.List.{All}
use Rattle.sr_group.proofs.moving.wanted_by.Given as goal

abbrev pub invariant-loop-id : goal.invariant-loop-id
invariant-loop-id l = (map (λ w. w.id) l.wanted.items ≡ take l.id-index l.ids) × All (λ w. w.owner ≡ l.claimer) l.wanted.items
