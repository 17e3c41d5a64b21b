use Rattle.std.proofs.Common.{◌≡◌, ℕ, ◌+◌, ◌<◌, List, length, get_or, ◌∙◌, arith}
use Rattle.std.proofs.Math.ListN.{set, length-set}
use Rattle.std.proofs.lemmas.List.{get_or-set_same}
use Rattle.sr_transport.specs.{Transport, consumers}
use Rattle.sr_transport.specs.plain.Problem.{IsWithinLimits, room_of}
use Rattle.sr_solver.specs.declared.groups.Groups.{Groups}
use Rattle.sr_solver.specs.Limits.{narrow_room}
use Rattle.sr_solver.specs.Groups.{IsAt, IsAtIn, low_row, AreLowsOf}
use Rattle.sr_solver.specs.Table.{IsKnown}
use Rattle.sr_solver.proofs.GroupLemmas.{IsLowRow, row_fits, lows_noted, least_of_all}
use Rattle.sr_solver.proofs.groups.find_in_groups.Goals as goal

-- the row of the pair
row_in : (p : Transport) (groups : Groups) (a b row : ℕ) (at : ℕ → ℕ → Type 0) (lows : List ℕ)
    → IsWithinLimits p.rooms p.entries p.costs
    → AreLowsOf p at groups lows → a < consumers p → narrow_room < room_of p a → b < consumers p
    → row ≡ low_row (consumers p) groups a b → IsLowRow (length lows) row groups.count
row_in p groups a b row at lows limits are lta wide ltb is =
    row_fits p groups a b row lows limits are.grouped are.each_group lta wide ltb is

pub least-group-requires-clause-within : goal.least-group-requires-clause-within
least-group-requires-clause-within c =
    (row_in c.args.problem.now c.args.groups c.args.from c.args.to c.row_of-row.result _ c.args.lows.now
    c.requires.limits c.requires.lows c.requires.from c.requires.wide c.requires.to c.row_of-row.ensures).within

pub bounds-lows-row : goal.bounds-lows-row
bounds-lows-row c =
    let row =
    row_in c.args.problem.now c.args.groups c.args.from c.args.to c.row_of-row.result _ c.loop.lows
    c.requires.limits c.loop.invariant.lows c.requires.from c.requires.wide c.requires.to c.row_of-row.ensures in
    omega (arith, row.within, c.loop.invariant.group)

pub least-next-requires-clause-within : goal.least-next-requires-clause-within
least-next-requires-clause-within c =
    let place : ℕ = c.row_of-row.result + c.loop.group in
    let row =
    row_in c.args.problem.now c.args.groups c.args.from c.args.to c.row_of-row.result _ c.loop.lows
    c.requires.limits c.loop.invariant.lows c.requires.from c.requires.wide c.requires.to c.row_of-row.ensures in
    rw (length-set c.loop.lows place c.find_in_group-found.result.low) row.within

pub bounds-lows-row-in-loop : goal.bounds-lows-row-in-loop
bounds-lows-row-in-loop c =
    let place : ℕ = c.row_of-row.result + c.loop.group in
    let row =
    row_in c.args.problem.now c.args.groups c.args.from c.args.to c.row_of-row.result _ c.loop.lows
    c.requires.limits c.loop.invariant.lows c.requires.from c.requires.wide c.requires.to c.row_of-row.ensures in
    rw (length-set c.loop.lows place c.find_in_group-found.result.low) (omega (arith, row.within, c.loop.invariant.group))

pub bounds-lows-row-in-loop-2 : goal.bounds-lows-row-in-loop-2
bounds-lows-row-in-loop-2 c =
    let place : ℕ = c.row_of-row.result + c.loop.group in
    let row =
    row_in c.args.problem.now c.args.groups c.args.from c.args.to c.row_of-row.result _ c.loop.lows
    c.requires.limits c.loop.invariant.lows c.requires.from c.requires.wide c.requires.to c.row_of-row.ensures in
    rw (length-set c.loop.lows place c.find_in_group-found.result.low) (omega (arith, row.within, c.least-next.ensures.group))

pub returns-then-lows-row-clause-lows : goal.returns-then-lows-row-clause-lows
returns-then-lows-row-clause-lows c =
    lows_noted c.args.problem.now c.args.placement.now.assign.items c.args.groups c.args.from c.args.to c.loop.group
    c.row_of-row.result c.loop.lows
    c.find_in_group-found.result
    c.requires.limits c.requires.from c.requires.wide c.requires.to c.loop.invariant.group
    c.row_of-row.ensures c.loop.invariant.lows
    (rw c.as_slice-assign.ensures.value at c.find_in_group-found.ensures.known)

pub returns-then-lows-row-clause-known : goal.returns-then-lows-row-clause-known
returns-then-lows-row-clause-known c =
    let p : Transport = c.args.problem.now in
    let row : ℕ = c.row_of-row.result in
    let new : List ℕ = set c.loop.lows (row + c.loop.group) c.find_in_group-found.result.low in
    let is_row : row ≡ low_row (consumers p) c.args.groups c.args.from c.args.to = c.row_of-row.ensures in
    let known : IsKnown p (IsAtIn c.args.placement.now.assign.items p.entries c.args.from c.loop.group) c.args.from
    c.args.to c.find_in_group-found.result =
    rw c.as_slice-assign.ensures.value at c.find_in_group-found.ensures.known in
    let are : AreLowsOf p (IsAt c.args.placement.now.assign.items p.entries) c.args.groups new =
    lows_noted p c.args.placement.now.assign.items c.args.groups c.args.from c.args.to c.loop.group row
    c.loop.lows c.find_in_group-found.result c.requires.limits c.requires.from c.requires.wide c.requires.to
    c.loop.invariant.group is_row c.loop.invariant.lows known in
    let within : row + c.loop.group < length c.loop.lows =
    (let fits =
    row_in p c.args.groups c.args.from c.args.to c.row_of-row.result _ c.loop.lows
    c.requires.limits c.loop.invariant.lows c.requires.from c.requires.wide c.requires.to c.row_of-row.ensures in
    omega (arith, fits.within, c.loop.invariant.group)) in
    let here : get_or new (row + c.loop.group) 0 ≡ c.find_in_group-found.result.low =
    get_or-set_same c.loop.lows (row + c.loop.group) c.find_in_group-found.result.low 0 within in
    least_of_all p c.args.placement.now.assign.items c.args.groups c.args.from c.args.to c.loop.group row
    new c.find_in_group-found.result c.requires.from c.requires.to
    c.requires.wide is_row are known
    (λ k lt. omega (arith, here, c.if-lows-row.true, c.least-next.ensures.least k lt))

pub loop-preserved : goal.loop-preserved
loop-preserved c =
    let row : ℕ = c.row_of-row.result in
    record {
      group = c.least-next.ensures.group;
      length = length-set c.loop.lows (row + c.loop.group) c.find_in_group-found.result.low ∙ c.loop.invariant.length;
      lows = lows_noted c.args.problem.now c.args.placement.now.assign.items c.args.groups c.args.from c.args.to
          c.loop.group row c.loop.lows c.find_in_group-found.result
          c.requires.limits c.requires.from c.requires.wide c.requires.to c.loop.invariant.group
          c.row_of-row.ensures c.loop.invariant.lows
          (rw c.as_slice-assign.ensures.value at c.find_in_group-found.ensures.known);
    }
