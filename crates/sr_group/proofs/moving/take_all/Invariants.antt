use Rattle.std.proofs.Common.{◌≡◌, ◌≢◌, ◌+◌, ◌≤◌, ℕ, List, length, map}
use Rattle.std.specs.List.{All}
use Rattle.std.specs.Vec.Iter.{into_iter_items, into_iter_len}
use Rattle.sr_pending.specs.{room_left}
use Rattle.sr_group.specs.Claim.{after_claim}
use Rattle.sr_group.proofs.moving.take_all.Given as goal

abbrev pub invariant-loop-one : goal.invariant-loop-one
invariant-loop-one l =
    (after_claim l.call.claim l.call.claimer.now l.call.moment l.call.entries.now.entries (map (λ w. w.id) (into_iter_items l.one-iterator)) l.pending.nacks
    ≡ after_claim l.call.claim l.call.claimer.now l.call.moment l.call.entries.now.entries (map (λ w. w.id) (into_iter_items l.initial.one-iterator)) l.initial.pending.nacks)
    × All (λ w. w.owner ≡ l.call.claimer.now) (into_iter_items l.one-iterator)
    × (length (into_iter_items l.one-iterator) ≤ room_left l.call.claimer.now l.pending.rooms)
    × (room_left l.call.claimer.now l.initial.pending.rooms + length (into_iter_items l.one-iterator) ≤ room_left l.call.claimer.now l.pending.rooms + length (into_iter_items l.initial.one-iterator))
    × ((other : List ℕ) → other ≢ l.call.claimer.now → room_left other l.pending.rooms ≡ room_left other l.initial.pending.rooms)
    × (into_iter_len l.one-iterator ≡ length (into_iter_items l.one-iterator))
