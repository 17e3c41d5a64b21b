use Rattle.std.proofs.Common.{◌≡◌, ◌++◌, List, map, take}
use Rattle.std.specs.List.{flat_map}
use Rattle.sr_peer.specs.Reply as wire
use Rattle.sr_live.specs.declared.looked.Row.{Row}
use Rattle.sr_live.specs.Said.{SayEntries}
use Rattle.sr_live.proofs.entries.rows_said.Given as goal

abbrev pub invariant-loop-id : goal.invariant-loop-id
invariant-loop-id l =
    (replies : List (List wire.Part)) × (more : List Row) × SayEntries replies more
    × (l.initial.parts ≡ flat_map (λ reply. reply) replies ++ l.parts)
    × (map (λ row. (row.id, row.owner)) more ≡ take l.id-index l.listed)
    × (l.rows.items ≡ l.initial.rows.items ++ more)
