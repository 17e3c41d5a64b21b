use Rattle.std.proofs.Common.{sym, ◌∙◌}
use Rattle.std.proofs.lemmas.List.{take_all}
use Rattle.sr_waiters.proofs.QueueLemmas.{numbered-all, numbered-blank, numbered-next, numbered-none}
use Rattle.sr_waiters.proofs.queue.number.Goals as goal
use Rattle.sr_waiters.proofs.queue.number.Goals.{in-Some, in_default}

pub loop-place-init : goal.loop-place-init
loop-place-init g c = numbered-none c.args.slots.now c.args.places.now

pub loop-place-preserved : goal.loop-place-preserved
loop-place-preserved g c =
    let slots = c.args.slots.now in
    let place = c.loop-place.place in
    let d = c.index-slots-place.result in
    let before = c.args.places.now in
    let so_far = c.loop-place.invariant in
    elim c.match-slots-place.branch [
      | in-Some w ↦ rw w.places-is (numbered-next slots place d before c.loop-place.places so_far c.loop-place-test.true w.in-Some.entry (sym c.index-slots-place.is ∙ w.in-Some.is) c.requires.once c.requires.there
          w.note.new.places w.note.ensures.noted w.note.ensures.len w.note.ensures.room)
      | in_default w ↦ rw w.places-is (numbered-blank slots place d before c.loop-place.places so_far c.loop-place-test.true (sym c.index-slots-place.is ∙ w.in_default.is))
    ]

pub returns-clause-placed : goal.returns-clause-placed
returns-clause-placed g c =
    let slots = c.args.slots.now in
    numbered-all slots c.loop-place.place c.args.places.now c.loop-place.places c.loop-place.invariant (take_all c.loop-place.place slots c.loop-place-test.false) c.requires.there
