use Rattle.std.proofs.Common.{arith}
use Rattle.sr_transport.proofs.PlainLimitLemmas.{room_small}
use Rattle.sr_solver.proofs.CrowdLemmas.{within_small}
use Rattle.sr_solver.proofs.crowd.places_of.Goals as goal

pub overflow_add-places : goal.overflow_add-places
overflow_add-places c =
    let p = c.args.problem.now in
    let limits = c.consumers-consumer-end.ensures.limits in
    let room = room_small p c.loop-consumer.consumer limits (omega arith) in
    let places = within_small p c.args.set c.loop-consumer.consumer limits (omega arith) in
    omega (arith, room, places, limits.consumers)
