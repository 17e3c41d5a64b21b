use Rattle.std.proofs.Common.{◌∙◌, arith}
use Rattle.std.proofs.lemmas.Result.{IfOk-from_err}
use Rattle.sr_solver.proofs.SolvedLemmas.{placed_priced}
use Rattle.sr_solver.proofs.solution.answer.Goals as goal

pub returns-in_err-placement-clause-solution : goal.returns-in_err-placement-clause-solution
returns-in_err-placement-clause-solution c = IfOk-from_err _ _ c.from_residual.ensures.0

pub returns-in_err-placement-clause-patient : goal.returns-in_err-placement-clause-patient
returns-in_err-placement-clause-patient c = λ yes. IfOk-from_err _ _ c.from_residual.ensures.0

pub returns-then-taken-entries-clause-solution : goal.returns-then-taken-entries-clause-solution
returns-then-taken-entries-clause-solution c =
    placed_priced c.args.problem.now.columns c.args.problem.now.steps.now c.take_all-taken.new.placement
    (rw (c.if-taken-entries.true ∙ c.entries.ensures) at c.take_all-taken.ensures.standing)

pub finish-requires-clause-first : goal.finish-requires-clause-first
finish-requires-clause-first c = omega arith

pub finish-requires-clause-standing : goal.finish-requires-clause-standing
finish-requires-clause-standing c = c.take_all-taken.ensures.standing

pub returns-clause-solution : goal.returns-clause-solution
returns-clause-solution c = c.finish.ensures.solution

pub returns-clause-patient : goal.returns-clause-patient
returns-clause-patient c = c.finish.ensures.patient

pub take_all-taken-requires : goal.take_all-taken-requires
take_all-taken-requires c = record { standing = c.in_ok-placement.ensures }
