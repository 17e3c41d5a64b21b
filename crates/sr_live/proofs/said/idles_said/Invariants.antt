use Rattle.std.proofs.Common.{◌≡◌, ◌++◌, ℕ, List, length}
use Rattle.std.specs.List.{flat_map}
use Rattle.sr_peer.specs.Reply as wire
use Rattle.sr_live.specs.Said.{SayConsumers, consumer_parts}
use Rattle.sr_live.proofs.said.idles_said.Given as goal

abbrev pub invariant-loop : goal.invariant-loop
invariant-loop l =
    (consumers : List (List (List ℕ × wire.Part))) × SayConsumers consumers l.idles.items
    × (length consumers ≡ l.counter) × (l.initial.parts ≡ flat_map consumer_parts consumers ++ l.parts)
