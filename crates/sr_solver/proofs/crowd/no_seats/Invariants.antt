use Rattle.std.proofs.Common.{◌≡◌, ℕ, ◌+◌, ◌*◌, ◌≤◌, length, get_or}
use Rattle.sr_solver.proofs.crowd.no_seats.Given as goal

abbrev pub invariant-loop-consumer : goal.invariant-loop-consumer
invariant-loop-consumer l = record {
  starts_each : length l.starts.items ≡ 64;
  rooms_each : length l.rooms.items ≡ 64;
  left_each : length l.left.items ≡ 64;
  short : l.all ≤ l.consumer * 4096;
  within : (c : ℕ) → get_or l.starts.items c 0 + get_or l.rooms.items c 0 ≤ l.all;
  left : (c : ℕ) → get_or l.left.items c 0 ≤ get_or l.rooms.items c 0;
}
