use Rattle.sr_solver.proofs.ByConsumerLemmas.{over_is, over_steps, over_within}
use Rattle.sr_solver.proofs.tiered.solve.Goals as goal

pub new-source-requires : goal.new-source-requires
new-source-requires c =
    rw (c.deref.ensures.value, c.entries.ensures, c.costs.ensures) (
    over_within c.args.problem.now c.in_ok-rooms.rooms.items c.sound.ensures c.in_ok-rooms.ensures)

pub solve_stepped-requires : goal.solve_stepped-requires
solve_stepped-requires c =
    let p = c.args.problem.now in
    let is = over_is p c.new-source.result c.deref.result.now c.in_ok-rooms.rooms.items c.entries.result
    c.costs.result.now c.new-source.ensures c.deref.ensures.value c.entries.ensures c.costs.ensures in
    rw (is, c.deref-2.ensures.value) (
    over_steps p c.in_ok-rooms.rooms.items c.in_ok-steps.steps.items c.sound.ensures c.in_ok-rooms.ensures
    c.in_ok-steps.ensures)

pub solved-requires-clause-answer : goal.solved-requires-clause-answer
solved-requires-clause-answer c =
    let p = c.args.problem.now in
    let is = over_is p c.new-source.result c.deref.result.now c.in_ok-rooms.rooms.items c.entries.result
    c.costs.result.now c.new-source.ensures c.deref.ensures.value c.entries.ensures c.costs.ensures in
    record {
      rooms = c.in_ok-rooms.rooms.items;
      are = c.in_ok-rooms.ensures;
      is = rw c.deref-3.ensures.value (rw is at (rw c.deref-2.ensures.value at c.in_ok-answer.ensures));
    }
