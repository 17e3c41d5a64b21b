use Rattle.std.proofs.Common.{ℕ, ◌∙◌, arith}
use Rattle.std.proofs.Math.ListN.{length-set}
use Rattle.std.proofs.lemmas.List.{length-replicate}
use Rattle.sr_solver.proofs.CrowdLemmas.{zero_at, within_more, left_more, no_seats}
use Rattle.sr_solver.proofs.crowd.no_seats.Goals as goal

pub loop-consumer-init : goal.loop-consumer-init
loop-consumer-init c =
    let starts = c.in_ok-starts.ensures.items_if_clones_equal (λ y e. e) in
    let rooms = c.in_ok-rooms.ensures.items_if_clones_equal (λ y e. e) in
    let left = c.in_ok-left.ensures.items_if_clones_equal (λ y e. e) in
    record {
      starts_each = rw starts (length-replicate {A = ℕ} 64 0);
      rooms_each = rw rooms (length-replicate {A = ℕ} 64 0);
      left_each = rw left (length-replicate {A = ℕ} 64 0);
      short = omega arith;
      within = λ d. rw (starts, rooms, zero_at 64 d) (omega arith);
      left = λ d. rw (left, rooms, zero_at 64 d) (omega arith);
    }

pub loop-consumer-preserved : goal.loop-consumer-preserved
loop-consumer-preserved c =
    let before = c.loop-consumer.invariant in
    let at : ℕ = c.loop-consumer.consumer in
    record {
      starts_each = length-set c.loop-consumer.starts.items at _ ∙ before.starts_each;
      rooms_each = length-set c.loop-consumer.rooms.items at _ ∙ before.rooms_each;
      left_each = length-set c.loop-consumer.left.items at _ ∙ before.left_each;
      short = omega (
        arith,
        before.short,
        c.min-room.ensures,
        c.entries-most.ensures,
        c.consumers-consumers.ensures.limits.few_entries,
      );
      within = within_more c.loop-consumer.starts.items c.loop-consumer.rooms.items c.loop-consumer.all at
          c.min-room.result (omega (arith, before.starts_each)) (omega (arith, before.rooms_each)) before.within;
      left = left_more c.loop-consumer.left.items c.loop-consumer.rooms.items at c.min-room.result
          (omega (arith, before.left_each)) (omega (arith, before.rooms_each)) before.left;
    }

pub returns-clause-seating : goal.returns-clause-seating
returns-clause-seating c =
    let all = c.loop-consumer.invariant in
    let seats = c.in_ok-seats.ensures.items_if_clones_equal (λ y e. e) in
    no_seats _ c.loop-consumer.all seats
    (omega (arith, c.requires.sets, c.consumers-consumers.ensures.limits.few_entries))
    (omega (arith, c.requires.sets, c.requires.some))
    (record { starts = all.starts_each; rooms = all.rooms_each; left = all.left_each; movers = c.in_ok-movers.ensures.each })
    (omega (arith, all.short, c.requires.few, c.consumers-consumers.ensures.count)) all.within all.left
    c.in_ok-movers.ensures.none
