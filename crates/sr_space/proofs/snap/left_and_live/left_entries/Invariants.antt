use Rattle.std.proofs.Common.{◌≡◌, map}
use Rattle.std.specs.List.{flat_map}
use Rattle.sr_entries.specs.{entry_with}
use Rattle.sr_space.specs.Snap.{stranded_as}
use Rattle.sr_space.specs.steps.Snapping.{gone_as}
use Rattle.sr_space.proofs.snap.left_and_live.left_entries.Given as goal

abbrev pub invariant-loop-nack : goal.invariant-loop-nack
invariant-loop-nack l =
    (l.left.stranded.items ≡ flat_map (λ nack. stranded_as l.policy nack (entry_with nack.id l.stream.shown.entries)) (map (λ nack. nack.now) l.yielded))
    × (l.left.gone.items ≡ flat_map (λ nack. gone_as nack (entry_with nack.id l.stream.shown.entries)) (map (λ nack. nack.now) l.yielded))
