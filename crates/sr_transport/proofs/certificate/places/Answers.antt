use Rattle.std.proofs.Common.{◌≡◌, suc, cond, sym, ap, ◌∙◌, arith}
use Rattle.sr_transport.specs.Problem.{consumers, room_of}
use Rattle.sr_transport.specs.Certificate.{is_reached}
use Rattle.sr_transport.proofs.SumLemmas.{sum_below-front_le}
use Rattle.sr_transport.proofs.CallerLemmas.{places_within}
use Rattle.sr_transport.proofs.certificate.places.Goals as goal

pub overflow_add-places : goal.overflow_add-places
overflow_add-places c =
    let p = c.args.problem.now in
    let set = c.args.set.now in
    let consumer = c.loop-consumer.consumer in
    let all = places_within p set c.sound.ensures c.requires in
    let front = sum_below-front_le (λ c'. cond (is_reached p set c') (room_of p c') 0) (suc consumer)
    (consumers p) (omega arith) in
    let here : cond (is_reached p set consumer) (room_of p consumer) 0 ≡ room_of p consumer =
    ap (λ b. cond b (room_of p consumer) 0) (sym c.is_reached.ensures ∙ c.if-is_reached.true) in
    omega (arith, all, front, here)

pub returns-clause-small : goal.returns-clause-small
returns-clause-small c =
    let p = c.args.problem.now in
    let at_end : c.loop-consumer.consumer ≡ consumers p = omega arith in
    omega (arith, places_within p c.args.set.now c.sound.ensures c.requires, rw at_end at c.loop-consumer.invariant)
