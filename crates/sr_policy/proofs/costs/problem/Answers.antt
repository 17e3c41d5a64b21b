use Rattle.std.proofs.Common.{rules}
use Rattle.std.proofs.lemmas.Result.{IfOk-from_err}
use Rattle.sr_policy.proofs.costs.problem.Goals as goal

pub returns-in_err-tiers-clause-ok : goal.returns-in_err-tiers-clause-ok
returns-in_err-tiers-clause-ok c = IfOk-from_err _ _ c.from_residual.ensures.0

pub returns-in_err-tiers-clause-within : goal.returns-in_err-tiers-clause-within
returns-in_err-tiers-clause-within c = IfOk-from_err _ _ c.from_residual.ensures.0

pub returns-in_err-costs-clause-ok : goal.returns-in_err-costs-clause-ok
returns-in_err-costs-clause-ok c = IfOk-from_err _ _ c.from_residual-in_err-costs.ensures.0

pub returns-in_err-costs-clause-within : goal.returns-in_err-costs-clause-within
returns-in_err-costs-clause-within c = IfOk-from_err _ _ c.from_residual-in_err-costs.ensures.0

pub returns-clause-ok : goal.returns-clause-ok
returns-clause-ok c = search rules
