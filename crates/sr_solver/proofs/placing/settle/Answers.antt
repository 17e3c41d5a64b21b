use Rattle.std.proofs.Common.{◌≡◌, ℕ, ◌<◌, length, get_or, sym, ap, ◌∙◌, arith}
use Rattle.std.proofs.lemmas.List.{get_or_default, with_items_is}
use Rattle.sr_transport.specs.{consumers}
use Rattle.sr_transport.proofs.PlainLimitLemmas.{room_small}
use Rattle.sr_solver.proofs.PlaceLemmas.{are_paths, end_in_room, placed_more, level_more_placed, loads_more}
use Rattle.sr_solver.proofs.OfferLemmas.{prices_low}
use Rattle.sr_solver.proofs.placing.settle.Goals as goal

pub shift-requires-clause-paths : goal.shift-requires-clause-paths
shift-requires-clause-paths c =
    are_paths c.args.problem.now.columns c.args.route.now.entry c.args.placement.now.assign.items c.args.placement.now.prices.items _
    c.args.route.now.labels.now
    c.requires.entry c.requires.standing.placed c.requires.found.search

pub returns-clause-standing : goal.returns-clause-standing
returns-clause-standing c =
    let before = c.args.placement.now in
    let end = c.args.route.now.end in
    let at : ℕ = end.consumer in
    let found = c.requires.found in
    let raised : c.shift.new.placement.prices.items ≡ c.raise.new.prices =
    ap (λ v. v.items) c.shift.ensures.prices ∙ with_items_is before.prices c.raise.new.prices (omega arith) in
    let same : c.shift.new.placement.loads.items ≡ before.loads.items = ap (λ v. v.items) c.shift.ensures.loads in
    let within : at < length before.loads.items =
    omega (arith, found.shortest.consumer, c.requires.standing.loads.one_each) in
    let count : c.index_mut.result.now ≡ get_or before.loads.items at 0 =
    rw same at c.index_mut.ensures.value ∙ get_or_default _ _ _ 0 within in
    record {
      placed = rw raised (
          placed_more c.args.problem.now.columns c.args.problem.now.steps.now c.args.route.now.entry before.assign.items before.prices.items c.args.route.now.labels.now end
          c.raise.new.prices
          c.shift.new.placement.assign.items c.requires.standing.placed c.requires.standing.are_steps
          c.requires.standing.level found c.requires.entry
          (rw c.deref_mut.ensures.value at c.raise.ensures) c.shift.ensures.assign
          );
      are_steps = c.requires.standing.are_steps;
      level = rw raised (
          level_more_placed c.args.problem.now.columns c.args.problem.now.steps.now c.args.route.now.entry before.assign.items before.prices.items c.args.route.now.labels.now end
          c.raise.new.prices
          c.shift.new.placement.assign.items c.requires.standing.placed c.requires.standing.level found
          (rw c.deref_mut.ensures.value at c.raise.ensures) c.shift.ensures.assign
          );
      loads = rw same (rw count (
          loads_more c.args.problem.now.columns c.args.problem.now.steps.now c.args.route.now.entry before.assign.items before.prices.items before.loads.items
          c.args.route.now.labels.now end
          c.shift.new.placement.assign.items c.requires.standing.loads found c.shift.ensures.assign
          ));
      wide = rw c.shift.ensures.width c.requires.standing.wide;
      members = c.shift.ensures.members;
    }

pub shift-requires-clause-in_room : goal.shift-requires-clause-in_room
shift-requires-clause-in_room c =
    end_in_room c.args.problem.now.columns c.args.problem.now.steps.now c.args.route.now.entry c.args.placement.now.assign.items c.args.placement.now.prices.items
    c.args.route.now.labels.now
    c.args.route.now.end c.requires.standing.placed c.requires.found

pub raise-requires-clause-one_each : goal.raise-requires-clause-one_each
raise-requires-clause-one_each c =
    c.requires.found.search.one_each
    ∙ sym (ap length c.deref_mut.ensures.value ∙ c.requires.standing.placed.one_each)

pub raise-requires-clause-few : goal.raise-requires-clause-few
raise-requires-clause-few c =
    rw c.deref_mut.ensures.value (rw c.requires.standing.placed.one_each c.requires.standing.placed.limits.consumers)

pub raise-requires-clause-dist : goal.raise-requires-clause-dist
raise-requires-clause-dist c = c.requires.found.shortest.small

pub raise-requires-clause-low : goal.raise-requires-clause-low
raise-requires-clause-low c = λ x lt.
    let within : length c.deref_mut.result.now ≡ consumers c.args.problem.now.columns =
    ap length c.deref_mut.ensures.value ∙ c.requires.standing.placed.one_each in
    prices_low c.args.problem.now.columns c.args.route.now.entry c.args.placement.now.assign.items c.args.placement.now.prices.items
    c.deref_mut.result.now
    c.requires.standing.placed c.requires.entry c.deref_mut.ensures.value x (rw within at lt)

pub raise-requires-clause-near : goal.raise-requires-clause-near
raise-requires-clause-near c = λ x lt.
    let within : length c.deref_mut.result.now ≡ consumers c.args.problem.now.columns =
    ap length c.deref_mut.ensures.value ∙ c.requires.standing.placed.one_each in
    c.requires.found.shortest.passed x (rw within at lt)

pub shift-requires-clause-limits : goal.shift-requires-clause-limits
shift-requires-clause-limits c = c.requires.standing.placed.limits

pub shift-requires-clause-one_each : goal.shift-requires-clause-one_each
shift-requires-clause-one_each c = c.requires.found.search.one_each

pub shift-requires-clause-every : goal.shift-requires-clause-every
shift-requires-clause-every c = c.requires.standing.placed.every

pub shift-requires-clause-allowed : goal.shift-requires-clause-allowed
shift-requires-clause-allowed c = λ x lt up.
    let found = c.requires.found in
    (found.search.way x (rw found.search.one_each at lt) up).allowed

pub shift-requires-clause-end : goal.shift-requires-clause-end
shift-requires-clause-end c = rw c.requires.found.search.one_each c.requires.found.shortest.consumer

pub shift-requires-clause-reached : goal.shift-requires-clause-reached
shift-requires-clause-reached c = c.requires.found.shortest.reached

pub shift-requires-clause-wide : goal.shift-requires-clause-wide
shift-requires-clause-wide c = c.requires.standing.wide

pub shift-requires-clause-members : goal.shift-requires-clause-members
shift-requires-clause-members c = c.requires.standing.members

pub shift-requires-clause-table : goal.shift-requires-clause-table
shift-requires-clause-table c = c.requires.table

pub returns-clause-table : goal.returns-clause-table
returns-clause-table c = c.shift.ensures.table

pub index_mut-requires : goal.index_mut-requires
index_mut-requires c =
    rw c.shift.ensures.loads (omega (arith, c.requires.found.shortest.consumer, c.requires.standing.loads.one_each))

pub overflow_add-index_mut : goal.overflow_add-index_mut
overflow_add-index_mut c =
    let before = c.args.placement.now in
    let end = c.args.route.now.end in
    let at : ℕ = end.consumer in
    let found = c.requires.found in
    let loads = c.requires.standing.loads in
    let same : c.shift.new.placement.loads.items ≡ before.loads.items = ap (λ v. v.items) c.shift.ensures.loads in
    let within : at < length before.loads.items = omega (arith, found.shortest.consumer, loads.one_each) in
    let count : c.index_mut.result.now ≡ get_or before.loads.items at 0 =
    rw same at c.index_mut.ensures.value ∙ get_or_default _ _ _ 0 within in
    omega (
      arith,
      count,
      loads.each at found.shortest.consumer,
      found.shortest.room,
      room_small c.args.problem.now.columns at c.requires.standing.placed.limits found.shortest.consumer,
    )
