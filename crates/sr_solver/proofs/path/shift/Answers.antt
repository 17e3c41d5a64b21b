use Rattle.std.proofs.Common.{◌≡◌, ℕ, ◌<◌, length, get_or, refl, ◌∙◌, inl, inr, arith}
use Rattle.std.proofs.lemmas.List.{get_or_default}
use Rattle.sr_transport.specs.plain.Problem.{room_of}
use Rattle.sr_solver.specs.Labels.{label_at}
use Rattle.sr_solver.proofs.PathLemmas.{mover_falls, shifting_more, shifted_last, put_in_room}
use Rattle.sr_solver.proofs.path.shift.Goals as goal

pub returns-then-mover-entry-clause-assign : goal.returns-then-mover-entry-clause-assign
returns-then-mover-entry-clause-assign c =
    rw c.put.ensures.assign (
    shifted_last c.args.route.now.labels.now c.args.route.now.entry c.args.route.now.end.consumer c.args.placement.now.assign.items
    c.path.placement.assign.items c.path.place
    c.requires.paths c.path.invariant.shifting c.if-mover-entry.true
    )

pub path-preserved : goal.path-preserved
path-preserved c =
    let shifting = c.path.invariant.shifting in
    let mover : ℕ = (label_at c.args.route.now.labels.now c.path.place).mover in
    let within : mover < length c.path.placement.assign.items =
    omega (arith, c.requires.paths.entry c.path.place shifting.consumer shifting.reached, shifting.every) in
    let from : c.index-from.result.now ≡ get_or c.path.placement.assign.items mover 0 =
    c.index-from.ensures ∙ get_or_default _ _ _ 0 within in
    record {
      shifting = rw c.put.ensures.assign (rw from (
          shifting_more c.args.route.now.labels.now c.args.route.now.entry c.args.route.now.end.consumer c.args.placement.now.assign.items
          c.path.placement.assign.items
          c.path.place c.requires.paths shifting c.if-mover-entry.false
          ));
      prices = c.put.ensures.prices ∙ c.path.invariant.prices;
      loads = c.put.ensures.loads ∙ c.path.invariant.loads;
      width = c.put.ensures.width ∙ c.path.invariant.width;
      members = c.put.ensures.members;
      table = c.put.ensures.table;
    }

pub put-requires-clause-room : goal.put-requires-clause-room
put-requires-clause-room c =
    let shifting = c.path.invariant.shifting in
    put_in_room c.args.route.now.labels.now c.args.route.now.entry c.args.route.now.end.consumer c.args.placement.now.assign.items
    c.path.placement.assign.items c.path.place
    (room_of c.args.problem.now c.path.place) c.requires.paths shifting
    (c.requires.in_room c.path.place shifting.consumer)

pub path-init : goal.path-init
path-init c = record {
  shifting = record {
    every = refl;
    consumer = c.requires.end;
    reached = c.requires.reached;
    passed = inr refl;
    loads = λ x lt. refl;
    moved = λ i. inl refl;
    still = λ i fewer. refl;
  };
  prices = refl;
  loads = refl;
  width = refl;
  members = c.requires.members;
  table = c.requires.table;
}

pub offset_bounds-labels-place : goal.offset_bounds-labels-place
offset_bounds-labels-place c = omega arith

pub bounds-labels-place : goal.bounds-labels-place
bounds-labels-place c = c.path.invariant.shifting.consumer

pub index-from-requires : goal.index-from-requires
index-from-requires c =
    omega (
      arith,
      c.requires.paths.entry c.path.place c.path.invariant.shifting.consumer
          c.path.invariant.shifting.reached,
    )

pub put-requires-clause-limits : goal.put-requires-clause-limits
put-requires-clause-limits c = c.requires.limits

pub put-requires-clause-entry : goal.put-requires-clause-entry
put-requires-clause-entry c =
    omega (
      arith,
      c.requires.paths.entry c.path.place c.path.invariant.shifting.consumer
          c.path.invariant.shifting.reached,
    )

pub put-requires-clause-every : goal.put-requires-clause-every
put-requires-clause-every c = c.path.invariant.shifting.every ∙ c.requires.every

pub put-requires-clause-allowed : goal.put-requires-clause-allowed
put-requires-clause-allowed c =
    c.requires.allowed c.path.place c.path.invariant.shifting.consumer c.path.invariant.shifting.reached

pub put-requires-clause-wide : goal.put-requires-clause-wide
put-requires-clause-wide c = rw c.path.invariant.width c.requires.wide

pub put-requires-clause-members : goal.put-requires-clause-members
put-requires-clause-members c = c.path.invariant.members

pub put-requires-clause-table : goal.put-requires-clause-table
put-requires-clause-table c = c.path.invariant.table

pub returns-then-mover-entry-clause-prices : goal.returns-then-mover-entry-clause-prices
returns-then-mover-entry-clause-prices c = c.put.ensures.prices ∙ c.path.invariant.prices

pub returns-then-mover-entry-clause-loads : goal.returns-then-mover-entry-clause-loads
returns-then-mover-entry-clause-loads c = c.put.ensures.loads ∙ c.path.invariant.loads

pub returns-then-mover-entry-clause-width : goal.returns-then-mover-entry-clause-width
returns-then-mover-entry-clause-width c = c.put.ensures.width ∙ c.path.invariant.width

pub returns-then-mover-entry-clause-members : goal.returns-then-mover-entry-clause-members
returns-then-mover-entry-clause-members c = c.put.ensures.members

pub returns-then-mover-entry-clause-table : goal.returns-then-mover-entry-clause-table
returns-then-mover-entry-clause-table c = c.put.ensures.table

pub path-smaller : goal.path-smaller
path-smaller c =
    let shifting = c.path.invariant.shifting in
    let mover : ℕ = (label_at c.args.route.now.labels.now c.path.place).mover in
    let within : mover < length c.path.placement.assign.items =
    omega (arith, c.requires.paths.entry c.path.place shifting.consumer shifting.reached, shifting.every) in
    let from : c.index-from.result.now ≡ get_or c.path.placement.assign.items mover 0 =
    c.index-from.ensures ∙ get_or_default _ _ _ 0 within in
    rw from (
    mover_falls c.args.route.now.labels.now c.args.route.now.entry c.args.route.now.end.consumer c.args.placement.now.assign.items
    c.path.placement.assign.items c.path.place
    c.requires.paths shifting
    )
