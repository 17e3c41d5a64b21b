use Rattle.std.proofs.Common.{ℕ, ◌<◌, ◌≤◌}
use Rattle.sr_transport.specs.Problem.{room_of}
use Rattle.sr_transport.specs.Assignment.{load}
use Rattle.sr_transport.proofs.certificate.are_in_room.Given as goal

abbrev pub invariant-loop-consumer : goal.invariant-loop-consumer
invariant-loop-consumer l = (c : ℕ) → c < l.consumer → load l.assign c ≤ room_of l.problem c
