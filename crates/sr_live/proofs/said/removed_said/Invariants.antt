use Rattle.std.proofs.Common.{◌≡◌, ◌++◌, ℕ, List, codes, option_map}
use Rattle.std.specs.List.{AllByRecursion}
use Rattle.sr_policy.specs.Rules.{value_at}
use Rattle.sr_peer.specs.Reply as wire
use Rattle.sr_peer.specs.Reply.{items_of}
use Rattle.sr_peer.specs.{part_of}
use Rattle.sr_live.specs.Said.{fields_parts}
use Rattle.sr_live.proofs.said.removed_said.Given as goal

abbrev pub invariant-loop : goal.invariant-loop
invariant-loop l =
    (fields : List (List ℕ × wire.Part))
    × AllByRecursion (λ (field : List ℕ × wire.Part). items_of field.1 ≡ 0) fields
    × (option_map part_of l.counts.kept ≡ value_at (codes "length") fields)
    × (option_map part_of l.counts.added ≡ value_at (codes "entries-added") fields)
    × (l.initial.parts ≡ fields_parts fields ++ l.parts)
