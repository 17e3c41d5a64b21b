use Rattle.std.proofs.Common.{◌≡◌, ◌≤◌, length}
use Rattle.std.specs.List.{All}
use Rattle.std.specs.Vec.Iter.{into_iter_items, into_iter_len}
use Rattle.sr_group.specs.Claim.{HasCount, after_moves}
use Rattle.sr_group.specs.steps.Moving.{HaveRooms}
use Rattle.sr_group.proofs.group.Group.move_all.Given as goal

abbrev pub invariant-loop-ready : goal.invariant-loop-ready
invariant-loop-ready l =
    (after_moves l.moment l.entries.entries (into_iter_items l.ready-iterator) l.self.shown ≡ after_moves l.moment l.entries.entries (into_iter_items l.initial.ready-iterator) l.initial.self.shown)
    × HaveRooms (into_iter_items l.ready-iterator) l.fn.self.rooms l.self.rooms
    × (length (into_iter_items l.ready-iterator) ≤ l.self.places)
    × All HasCount (into_iter_items l.ready-iterator)
    × (into_iter_len l.ready-iterator ≡ length (into_iter_items l.ready-iterator))
