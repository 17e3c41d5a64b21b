use Rattle.std.proofs.Common.{◌≡◌, length}
use Rattle.std.specs.Vec.Iter.{into_iter_items, into_iter_len}
use Rattle.sr_group.specs.Shown.{after_acts}
use Rattle.sr_group.specs.steps.Showing.{HaveRoom}
use Rattle.sr_group.proofs.show.apply_all.Given as goal

abbrev pub invariant-loop-act : goal.invariant-loop-act
invariant-loop-act l = (after_acts (into_iter_items l.act-iterator) l.pending.nacks ≡ after_acts (into_iter_items l.initial.act-iterator) l.initial.pending.nacks)
    × HaveRoom (into_iter_items l.act-iterator) l.pending.rooms
    × (into_iter_len l.act-iterator ≡ length (into_iter_items l.act-iterator))
