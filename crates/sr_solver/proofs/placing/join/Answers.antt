use Rattle.std.proofs.Common.{◌≡◌, ◌<◌, length, get_or, ◌∙◌, arith}
use Rattle.std.proofs.Math.ListN.{set}
use Rattle.std.proofs.lemmas.List.{get_or_default, with_items_is}
use Rattle.sr_solver.specs.Members.{AreMembers}
use Rattle.sr_solver.proofs.TakerLemmas.{placed_taken, level_taken, loads_taken, taken_roomy, taken_members}
use Rattle.sr_solver.proofs.placing.join.Goals as goal

pub add-requires-clause-room : goal.add-requires-clause-room
add-requires-clause-room c =
    let s = c.requires.standing in
    let before = c.args.placement.now in
    let roomy =
    taken_roomy c.args.problem.now.columns c.args.problem.now.steps.now c.args.entry c.args.consumer before.width before.assign.items before.prices.items
    before.loads.items
    before.members.items s.placed s.loads s.wide s.members c.requires.entry c.requires.taker in
    rw c.deref_mut.ensures.value roomy.room

pub returns : goal.returns
returns c =
    let s = c.requires.standing in
    let before = c.args.placement.now in
    let within : c.args.consumer < length before.loads.items =
    omega (arith, c.requires.taker.allowed.0, s.loads.one_each) in
    let count : c.index_mut-2.result.now ≡ get_or before.loads.items c.args.consumer 0 =
    c.index_mut-2.ensures.value ∙ get_or_default _ _ _ 0 within in
    let members : AreMembers c.args.problem.now.columns before.width
    (set before.assign.items c.args.entry c.args.consumer) c.add.new.members =
    rw c.add.ensures (rw c.deref_mut.ensures.value (
    taken_members c.args.problem.now.columns c.args.problem.now.steps.now c.args.entry c.args.consumer before.width before.assign.items before.prices.items
    before.loads.items
    before.members.items s.placed s.loads s.wide s.members c.requires.entry c.requires.taker
    )) in
    record {
      placed = placed_taken c.args.problem.now.columns c.args.problem.now.steps.now c.args.entry c.args.consumer before.assign.items before.prices.items
          before.loads.items
          s.placed s.loads c.requires.entry c.requires.taker;
      are_steps = s.are_steps;
      level = level_taken c.args.problem.now.columns c.args.problem.now.steps.now c.args.entry c.args.consumer before.assign.items before.prices.items
          before.loads.items
          s.placed s.level s.loads c.requires.entry c.requires.taker;
      loads = rw count (
          loads_taken c.args.problem.now.columns c.args.problem.now.steps.now c.args.entry c.args.consumer before.assign.items before.prices.items
          before.loads.items
          s.placed s.loads c.requires.entry c.requires.taker
          );
      wide = s.wide;
      members = rw (with_items_is before.members c.add.new.members
          (omega (arith, members.one_each, s.members.one_each))) members;
    }
