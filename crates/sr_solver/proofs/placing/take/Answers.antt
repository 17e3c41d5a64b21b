use Rattle.std.proofs.Common.{◌≡◌, ◌<◌, length, get_or, sym, ap, ◌∙◌, arith}
use Rattle.std.proofs.lemmas.Bool.{false≢true}
use Rattle.std.proofs.lemmas.List.{get_or_default}
use Rattle.sr_transport.proofs.PlainLimitLemmas.{room_small}
use Rattle.sr_solver.specs.Taker.{IsTaker}
use Rattle.sr_solver.proofs.OfferLemmas.{prices_low}
use Rattle.sr_solver.proofs.TakerLemmas.{placed_taken, level_taken, loads_taken, taken_in_room}
use Rattle.sr_solver.proofs.placing.take.Goals as goal

pub put-requires-clause-room : goal.put-requires-clause-room
put-requires-clause-room c =
    let s = c.requires.standing in
    let before = c.args.placement.now in
    let taken : IsTaker c.args.problem.now.columns c.args.problem.now.steps.now before.prices.items before.loads.items c.args.entry c.in-Some.consumer =
    rw c.deref.ensures.value at (rw c.deref-2.ensures.value at c.in-Some.ensures.some) in
    taken_in_room c.args.problem.now.columns c.args.problem.now.steps.now c.args.entry c.in-Some.consumer before.assign.items before.prices.items
    before.loads.items
    s.placed s.loads c.requires.entry taken

pub returns-clause-taken : goal.returns-clause-taken
returns-clause-taken c =
    λ yes.
    let s = c.requires.standing in
    let before = c.args.placement.now in
    let taken : IsTaker c.args.problem.now.columns c.args.problem.now.steps.now before.prices.items before.loads.items c.args.entry c.in-Some.consumer =
    rw c.deref.ensures.value at (rw c.deref-2.ensures.value at c.in-Some.ensures.some) in
    let prices : c.put.new.placement.prices.items ≡ before.prices.items = ap (λ v. v.items) c.put.ensures.prices in
    let same : c.put.new.placement.loads.items ≡ before.loads.items = ap (λ v. v.items) c.put.ensures.loads in
    let within : c.in-Some.consumer < length before.loads.items = omega (arith, taken.allowed.0, s.loads.one_each) in
    let count : c.index_mut.result.now ≡ get_or before.loads.items c.in-Some.consumer 0 =
    rw same at c.index_mut.ensures.value ∙ get_or_default _ _ _ 0 within in
    record {
      placed = rw c.put.ensures.assign (rw prices (
          placed_taken c.args.problem.now.columns c.args.problem.now.steps.now c.args.entry c.in-Some.consumer before.assign.items before.prices.items
          before.loads.items
          s.placed s.loads c.requires.entry taken
          ));
      are_steps = s.are_steps;
      level = rw c.put.ensures.assign (rw prices (
          level_taken c.args.problem.now.columns c.args.problem.now.steps.now c.args.entry c.in-Some.consumer before.assign.items before.prices.items before.loads.items
          s.placed s.level s.loads c.requires.entry taken
          ));
      loads = rw c.put.ensures.assign (rw same (rw count (
          loads_taken c.args.problem.now.columns c.args.problem.now.steps.now c.args.entry c.in-Some.consumer before.assign.items before.prices.items
          before.loads.items
          s.placed s.loads c.requires.entry taken
          )));
      wide = rw c.put.ensures.width s.wide;
      members = c.put.ensures.members;
    }

pub taker-requires-clause-entry : goal.taker-requires-clause-entry
taker-requires-clause-entry c = c.requires.entry

pub taker-requires-clause-steps_each : goal.taker-requires-clause-steps_each
taker-requires-clause-steps_each c = c.requires.standing.are_steps.one_each

pub taker-requires-clause-prices_each : goal.taker-requires-clause-prices_each
taker-requires-clause-prices_each c = ap length c.deref.ensures.value ∙ c.requires.standing.placed.one_each

pub taker-requires-clause-loads_each : goal.taker-requires-clause-loads_each
taker-requires-clause-loads_each c = ap length c.deref-2.ensures.value ∙ c.requires.standing.loads.one_each

pub taker-requires-clause-low : goal.taker-requires-clause-low
taker-requires-clause-low c =
    prices_low c.args.problem.now.columns c.args.entry c.args.placement.now.assign.items c.args.placement.now.prices.items
    c.deref.result.now
    c.requires.standing.placed c.requires.entry c.deref.ensures.value

pub returns-in_default-clause-taken : goal.returns-in_default-clause-taken
returns-in_default-clause-taken c = λ yes. absurd (false≢true yes)

pub returns-in_default-clause-left : goal.returns-in_default-clause-left
returns-in_default-clause-left c = λ no. c.requires.standing

pub returns-in_default-clause-table : goal.returns-in_default-clause-table
returns-in_default-clause-table c = c.requires.table

pub put-requires-clause-limits : goal.put-requires-clause-limits
put-requires-clause-limits c = c.requires.standing.placed.limits

pub put-requires-clause-entry : goal.put-requires-clause-entry
put-requires-clause-entry c = c.requires.entry

pub put-requires-clause-every : goal.put-requires-clause-every
put-requires-clause-every c = c.requires.standing.placed.every

pub put-requires-clause-allowed : goal.put-requires-clause-allowed
put-requires-clause-allowed c = c.in-Some.ensures.some.allowed

pub put-requires-clause-wide : goal.put-requires-clause-wide
put-requires-clause-wide c = c.requires.standing.wide

pub put-requires-clause-members : goal.put-requires-clause-members
put-requires-clause-members c = c.requires.standing.members

pub put-requires-clause-table : goal.put-requires-clause-table
put-requires-clause-table c = c.requires.table

pub index_mut-requires : goal.index_mut-requires
index_mut-requires c =
    rw c.put.ensures.loads (omega (arith, c.in-Some.ensures.some.allowed.0, c.requires.standing.loads.one_each))

pub overflow_add-index_mut : goal.overflow_add-index_mut
overflow_add-index_mut c =
    let before = c.args.placement.now in
    let loads = c.requires.standing.loads in
    let taken : IsTaker c.args.problem.now.columns c.args.problem.now.steps.now before.prices.items before.loads.items c.args.entry c.in-Some.consumer =
    rw c.deref.ensures.value at (rw c.deref-2.ensures.value at c.in-Some.ensures.some) in
    let same : c.put.new.placement.loads.items ≡ before.loads.items = ap (λ v. v.items) c.put.ensures.loads in
    let within : c.in-Some.consumer < length before.loads.items = omega (arith, taken.allowed.0, loads.one_each) in
    let count : c.index_mut.result.now ≡ get_or before.loads.items c.in-Some.consumer 0 =
    rw same at c.index_mut.ensures.value ∙ get_or_default _ _ _ 0 within in
    omega (
      arith,
      count,
      taken.vacant.room,
      room_small c.args.problem.now.columns c.in-Some.consumer c.requires.standing.placed.limits taken.allowed.0,
    )

pub returns-clause-left : goal.returns-clause-left
returns-clause-left c = λ no. absurd (false≢true (sym no))

pub returns-clause-table : goal.returns-clause-table
returns-clause-table c = c.put.ensures.table
