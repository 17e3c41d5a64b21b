use Rattle.std.proofs.Common.{◌≡◌, ℕ, min, length, ap, arith}
use Rattle.sr_transport.specs.Limits.{greatest_room}
use Rattle.sr_transport.specs.Problem.{room_of}
use Rattle.sr_solver.proofs.ByConsumerLemmas.{push_each, push_length}
use Rattle.sr_solver.proofs.tiered.rooms.Goals as goal

pub loop-consumer-init : goal.loop-consumer-init
loop-consumer-init c = record {
  one_each = ap length c.in_ok-rooms.ensures.items;
  each = λ k lt. absurd (omega (arith, lt));
}

pub loop-consumer-preserved : goal.loop-consumer-preserved
loop-consumer-preserved c =
    let p = c.args.problem.now in
    let n : ℕ = c.loop-consumer.consumer in
    let is = c.loop-consumer.invariant in
    record {
      one_each = rw c.in_ok-push.ensures.items (push_length c.loop-consumer.rooms.items _ n is.one_each);
      each = rw c.in_ok-push.ensures.items (
          push_each (λ k room. room ≡ min (room_of p k) greatest_room) 0 c.loop-consumer.rooms.items _ n is.one_each
          is.each (omega (arith, c.min.ensures, c.room.ensures))
          );
    }
