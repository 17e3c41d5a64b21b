use Rattle.std.proofs.Common.{◌≡◌, ◌++◌, ℕ, List, codes, length, option_map}
use Rattle.sr_policy.specs.Rules.{value_at}
use Rattle.sr_peer.specs.Reply as wire
use Rattle.sr_peer.specs.{part_of}
use Rattle.sr_live.specs.Said.{fields_parts}
use Rattle.sr_live.proofs.said.fields_found.Given as goal

abbrev pub invariant-loop : goal.invariant-loop
invariant-loop l =
    (fields : List (List ℕ × wire.Part)) × (length fields ≡ l.counter)
    × (option_map part_of l.found.name ≡ value_at (codes "name") fields)
    × (option_map part_of l.found.idle ≡ value_at (codes "idle") fields)
    × (l.initial.parts ≡ fields_parts fields ++ l.parts)
