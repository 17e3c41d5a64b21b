use Rattle.std.proofs.Common.{◌≡◌, ◌≤◌, length, All}
use Rattle.sr_transport.specs.Limits.{greatest_room}
use Rattle.sr_solver.proofs.sample.smaller_rooms.Given as goal

abbrev pub invariant-loop-consumer : goal.invariant-loop-consumer
invariant-loop-consumer l = record {
  one_each : length l.rooms.items ≡ l.consumer;
  small : All (λ room. room ≤ greatest_room) l.rooms.items;
}
