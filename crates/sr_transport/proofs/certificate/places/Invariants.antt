use Rattle.std.proofs.Common.{◌≡◌, cond}
use Rattle.sr_transport.specs.Sum.{sum_below}
use Rattle.sr_transport.specs.Problem.{room_of}
use Rattle.sr_transport.specs.Certificate.{is_reached}
use Rattle.sr_transport.proofs.certificate.places.Given as goal

abbrev pub invariant-loop-consumer : goal.invariant-loop-consumer
invariant-loop-consumer l =
    l.places ≡ sum_below (λ c. cond (is_reached l.problem l.set c) (room_of l.problem c) 0) l.consumer
