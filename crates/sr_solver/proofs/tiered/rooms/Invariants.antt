use Rattle.std.proofs.Common.{◌≡◌, ℕ, ◌<◌, min, length, get_or}
use Rattle.sr_transport.specs.Limits.{greatest_room}
use Rattle.sr_transport.specs.Problem.{room_of}
use Rattle.sr_solver.proofs.tiered.rooms.Given as goal

abbrev pub invariant-loop-consumer : goal.invariant-loop-consumer
invariant-loop-consumer l = record {
  one_each : length l.rooms.items ≡ l.consumer;
  each : (c : ℕ) → c < l.consumer → get_or l.rooms.items c 0 ≡ min (room_of l.problem c) greatest_room;
}
