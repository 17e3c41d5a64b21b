use Rattle.std.proofs.Common.{◌≡◌, ◌∙◌, None, Some, sym, arith}
use Rattle.std.proofs.lemmas.List.{get_or_default}
use Rattle.sr_solver.specs.Crowd.{mover_at, Sits}
use Rattle.sr_solver.proofs.CrowdLemmas.{mover_sits}
use Rattle.sr_solver.proofs.crowd.shift.Goals as goal

pub loop-preserved : goal.loop-preserved
loop-preserved c =
    let at : mover_at c.loop.seating.movers.items c.loop.consumer ≡ Some c.in-Some.mover =
    get_or_default c.loop.seating.movers.items c.loop.consumer None c.index.result.now
    (omega (arith, c.loop.invariant.consumer, c.loop.invariant.seating.movers_each))
    ∙ (sym c.index.ensures ∙ c.in-Some.is) in
    let sits : Sits c.loop.seating c.in-Some.mover =
    mover_sits c.loop.seating c.loop.consumer c.in-Some.mover c.loop.invariant.seating at in
    record {
      sets = c.give.ensures.sets ∙ c.loop.invariant.sets;
      seating = c.give.ensures.seating;
      seat = omega (arith, sits.seat, c.give.ensures.each_seat);
      consumer = sits.consumer;
    }
