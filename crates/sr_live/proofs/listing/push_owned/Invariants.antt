use Rattle.std.proofs.Common.{◌≡◌, ◌++◌, map, take}
use Rattle.sr_live.specs.Looking.{ids_within}
use Rattle.sr_live.proofs.listing.push_owned.Given as goal

abbrev pub invariant-loop-entry : goal.invariant-loop-entry
invariant-loop-entry l =
    l.listed.items ≡ l.initial.listed.items
    ++ map (λ id. (id, l.owner)) (ids_within l.most (take l.entry-index l.page))
