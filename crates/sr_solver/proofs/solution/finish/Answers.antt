use Rattle.std.proofs.Common.{◌≡◌, ℕ, ◌<◌, ◌≤◌, length, ap, ◌∙◌, sym, arith}
use Rattle.std.proofs.lemmas.Bool.{false≢true}
use Rattle.std.proofs.lemmas.Result.{IfOk-from_err}
use Rattle.sr_transport.specs.{consumers}
use Rattle.sr_solver.proofs.ShortageLemmas.{stuck_short_is}
use Rattle.sr_solver.proofs.SolvedLemmas.{placed_priced}
use Rattle.sr_solver.proofs.solution.finish.Goals as goal

pub place_all-requires-clause-table : goal.place_all-requires-clause-table
place_all-requires-clause-table c = c.in_ok-table.ensures c.args.placement.assign.items

pub stranded-requires-clause-entry : goal.stranded-requires-clause-entry
stranded-requires-clause-entry c = rw (c.deref.ensures.value, c.in-Stuck.ensures.every) c.in-Stuck.ensures.entry

pub stranded-requires-clause-placed : goal.stranded-requires-clause-placed
stranded-requires-clause-placed c i lt =
    let many : length c.deref-in-Stuck.result.now ≡ consumers c.args.problem.now.columns =
    ap length c.deref-in-Stuck.ensures.value ∙ c.in-Stuck.ensures.lost.search.one_each in
    rw (c.deref.ensures.value, many) (c.in-Stuck.ensures.placed_below i lt).0

pub returns-in_ok-set-in-Stuck-clause-solution : goal.returns-in_ok-set-in-Stuck-clause-solution
returns-in_ok-set-in-Stuck-clause-solution c =
    stuck_short_is c.args.problem.now.columns c.in-Stuck.entry c.place_all.new.placement.assign.items
    c.place_all.new.placement.prices.items
    c.place_all.new.known.front.labels.items c.deref.result.now c.deref-in-Stuck.result.now c.in_ok-set-in-Stuck.set.items
    c.in-Stuck.ensures
    c.deref.ensures.value
    c.deref-in-Stuck.ensures.value
    c.in_ok-set-in-Stuck.ensures

pub returns-in_err-table-clause-solution : goal.returns-in_err-table-clause-solution
returns-in_err-table-clause-solution c = IfOk-from_err _ _ c.from_residual.ensures.0

pub returns-in_err-table-clause-patient : goal.returns-in_err-table-clause-patient
returns-in_err-table-clause-patient c = λ yes. IfOk-from_err _ _ c.from_residual.ensures.0

pub returns-in_err-front-clause-solution : goal.returns-in_err-front-clause-solution
returns-in_err-front-clause-solution c = IfOk-from_err _ _ c.from_residual-in_err-front.ensures.0

pub returns-in_err-front-clause-patient : goal.returns-in_err-front-clause-patient
returns-in_err-front-clause-patient c = λ yes. IfOk-from_err _ _ c.from_residual-in_err-front.ensures.0

below : (a b : ℕ) → a < b → a ≤ b
below a b lt = omega arith

pub place_all-requires-clause-first : goal.place_all-requires-clause-first
place_all-requires-clause-first c = below c.args.first _ c.requires.first

pub place_all-requires-clause-labels : goal.place_all-requires-clause-labels
place_all-requires-clause-labels c = c.in_ok-front.ensures ∙ c.consumers.ensures.count

pub place_all-requires-clause-standing : goal.place_all-requires-clause-standing
place_all-requires-clause-standing c = c.requires.standing

pub returns-in_err-set-in-Stuck-clause-solution : goal.returns-in_err-set-in-Stuck-clause-solution
returns-in_err-set-in-Stuck-clause-solution c = IfOk-from_err _ _ c.from_residual-in_err-set-in-Stuck.ensures.0

pub returns-in_err-set-in-Stuck-clause-patient : goal.returns-in_err-set-in-Stuck-clause-patient
returns-in_err-set-in-Stuck-clause-patient c = λ yes. IfOk-from_err _ _ c.from_residual-in_err-set-in-Stuck.ensures.0

pub returns-in-Placed-clause-solution : goal.returns-in-Placed-clause-solution
returns-in-Placed-clause-solution c =
    placed_priced c.args.problem.now.columns c.args.problem.now.steps.now c.place_all.new.placement c.in-Placed.ensures

pub returns-in-Slow-clause-patient : goal.returns-in-Slow-clause-patient
returns-in-Slow-clause-patient c = λ yes. absurd (false≢true (sym c.in-Slow.ensures ∙ yes))
