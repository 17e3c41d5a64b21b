use Rattle.std.proofs.Common.{◌∙◌, arith, refl, ap}
use Rattle.std.proofs.lemmas.List.{take_at}
use Rattle.sr_solver.proofs.OrderLemmas.{renamed_solution, all_picked, picked_reordered, placed_every}
use Rattle.sr_solver.proofs.RenamedShortageLemmas.{renamed_shortage_is, shortage_places}
use Rattle.std.proofs.lemmas.Result.{IfOk-from_err}
use Rattle.sr_solver.proofs.solution.solve_reordered.Goals as goal

pub picked-requires : goal.picked-requires
picked-requires c =
    rw c.deref.ensures.value (
    all_picked c.args.source.now c.rooms.result.now c.in_ok-order.order.items c.whole-whole.ensures.limits
    (c.rooms.ensures ∙ ap (λ p. p.rooms) c.whole-whole.ensures.value) c.in_ok-order.ensures)

pub returns-in-Placed : goal.returns-in-Placed
returns-in-Placed c =
    let re = picked_reordered c.args.source.now c.picked.result c.rooms.result.now c.deref.result.now
    c.in_ok-order.order.items c.picked.ensures
    (c.rooms.ensures ∙ ap (λ p. p.rooms) c.whole-whole.ensures.value) c.deref.ensures.value c.in_ok-order.ensures in
    renamed_solution c.args.source.now c.picked.result c.args.steps.now c.in_ok-order.order.items
    c.in-Placed.assign.items c.rename.new.renamed c.in_ok-order.order.items c.deref-in-Placed.result.now
    c.deref-in-Placed-2.result.now _ c.in-Placed.prices.items c.in_ok-order.ensures re refl c.deref-in-Placed.ensures.value
    c.deref-in-Placed-2.ensures.value
    (take_at c.rename.new.renamed _ c.in_ok-renamed.renamed.len (omega arith)) c.rename.ensures.every
    c.rename.ensures.renamed (rw c.in-Placed.is at c.in_ok-assign.ensures)

pub rename-requires-clause-order : goal.rename-requires-clause-order
rename-requires-clause-order c =
    let re = picked_reordered c.args.source.now c.picked.result c.rooms.result.now c.deref.result.now
    c.in_ok-order.order.items c.picked.ensures
    (c.rooms.ensures ∙ ap (λ p. p.rooms) c.whole-whole.ensures.value) c.deref.ensures.value c.in_ok-order.ensures in
    let every = placed_every c.args.source.now c.picked.result c.args.steps.now c.in_ok-order.order.items
    c.in-Placed.assign.items c.deref-in-Placed-2.result.now c.in-Placed.prices.items re
    c.deref-in-Placed-2.ensures.value (rw c.in-Placed.is at c.in_ok-assign.ensures) in
    rw (every, c.deref-in-Placed.ensures.value) c.in_ok-order.ensures

pub rename-requires-clause-every : goal.rename-requires-clause-every
rename-requires-clause-every c =
    let re = picked_reordered c.args.source.now c.picked.result c.rooms.result.now c.deref.result.now
    c.in_ok-order.order.items c.picked.ensures
    (c.rooms.ensures ∙ ap (λ p. p.rooms) c.whole-whole.ensures.value) c.deref.ensures.value c.in_ok-order.ensures in
    let every = placed_every c.args.source.now c.picked.result c.args.steps.now c.in_ok-order.order.items
    c.in-Placed.assign.items c.deref-in-Placed-2.result.now c.in-Placed.prices.items re
    c.deref-in-Placed-2.ensures.value (rw c.in-Placed.is at c.in_ok-assign.ensures) in
    omega (
      arith,
      every,
      c.deref_mut.ensures.len,
      c.in_ok-renamed.ensures.len,
      c.entries.ensures,
      ap (λ p. p.entries) c.whole-whole.ensures.value,
    )

pub entries_at-requires : goal.entries_at-requires
entries_at-requires c =
    let re = picked_reordered c.args.source.now c.picked.result c.rooms.result.now c.deref.result.now
    c.in_ok-order.order.items c.picked.ensures
    (c.rooms.ensures ∙ ap (λ p. p.rooms) c.whole-whole.ensures.value) c.deref.ensures.value c.in_ok-order.ensures in
    rw (c.deref-in-Short.ensures.value, c.deref-in-Short-2.ensures.value) (
    shortage_places c.args.source.now c.picked.result c.in_ok-order.order.items c.in-Short.set.items
    c.in_ok-order.order.items c.in_ok-order.ensures re (rw c.in-Short.is at c.in_ok-assign.ensures))

pub returns : goal.returns
returns c =
    let re = picked_reordered c.args.source.now c.picked.result c.rooms.result.now c.deref.result.now
    c.in_ok-order.order.items c.picked.ensures
    (c.rooms.ensures ∙ ap (λ p. p.rooms) c.whole-whole.ensures.value) c.deref.ensures.value c.in_ok-order.ensures in
    renamed_shortage_is c.args.source.now c.picked.result c.in_ok-order.order.items c.in-Short.set.items
    c.in_ok-order.order.items c.deref-in-Short.result.now c.deref-in-Short-2.result.now
    c.in_ok-set-in-Short.set.items c.in_ok-order.ensures re refl c.deref-in-Short.ensures.value
    c.deref-in-Short-2.ensures.value (rw c.in-Short.is at c.in_ok-assign.ensures) c.in_ok-set-in-Short.ensures

pub returns-in_err-order : goal.returns-in_err-order
returns-in_err-order c = IfOk-from_err _ _ c.from_residual.ensures.0

pub returns-in_err-renamed : goal.returns-in_err-renamed
returns-in_err-renamed c = IfOk-from_err _ _ c.from_residual-in_err-renamed.ensures.0

pub returns-in_err-assign : goal.returns-in_err-assign
returns-in_err-assign c = IfOk-from_err _ _ c.from_residual-in_err-assign.ensures.0

pub returns-in_err-set-in-Short : goal.returns-in_err-set-in-Short
returns-in_err-set-in-Short c = IfOk-from_err _ _ c.from_residual-in_err-set-in-Short.ensures.0

pub solve_in_order-requires : goal.solve_in_order-requires
solve_in_order-requires c =
    let re = picked_reordered c.args.source.now c.picked.result c.rooms.result.now c.deref.result.now
    c.in_ok-order.order.items c.picked.ensures
    (c.rooms.ensures ∙ ap (λ p. p.rooms) c.whole-whole.ensures.value) c.deref.ensures.value c.in_ok-order.ensures in
    rw re.rooms c.requires
