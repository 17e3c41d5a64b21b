use Rattle.std.proofs.Common.{◌+◌, ◌≤◌, length, ap, ◌∙◌, arith}
use Rattle.std.proofs.lemmas.List.{length_push}
use Rattle.std.proofs.lemmas.List.Elements.{All-push}
use Rattle.sr_transport.specs.Limits.{greatest_room}
use Rattle.sr_solver.proofs.sample.smaller_rooms.Goals as goal

pub loop-consumer-init : goal.loop-consumer-init
loop-consumer-init c = record {
  one_each = ap length c.in_ok-rooms.ensures.items;
  small = λ k d lt. absurd (omega (arith, lt, ap length c.in_ok-rooms.ensures.items));
}

pub loop-consumer-preserved : goal.loop-consumer-preserved
loop-consumer-preserved c = record {
  one_each = ap length c.in_ok-push.ensures.items
      ∙ (length_push c.loop-consumer.rooms.items _ ∙ ap (λ n. n + 1) c.loop-consumer.invariant.one_each);
  small = rw c.in_ok-push.ensures.items (
      All-push (λ room. room ≤ greatest_room) c.loop-consumer.rooms.items _ c.loop-consumer.invariant.small
      (omega (
        arith,
        c.min.ensures,
        c.room-room.ensures,
        c.consumers.ensures.limits.small_rooms c.loop-consumer.consumer 0 (omega arith),
      ))
      );
}

pub returns-clause-small : goal.returns-clause-small
returns-clause-small c = c.loop-consumer.invariant.small
