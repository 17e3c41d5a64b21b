use Rattle.std.proofs.Common.{◌≡◌, ◌++◌, List, length}
use Rattle.sr_peer.specs.Reply as wire
use Rattle.sr_live.specs.Said.{ArePendingRows}
use Rattle.sr_live.proofs.said.pending_said.Given as goal

abbrev pub invariant-loop : goal.invariant-loop
invariant-loop l =
    (rows : List wire.Part) × ArePendingRows rows l.owner l.entries.items × (length l.entries.items ≡ l.counter)
    × (l.initial.parts ≡ rows ++ l.parts)
