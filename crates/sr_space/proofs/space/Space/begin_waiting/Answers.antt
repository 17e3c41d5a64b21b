use Rattle.std.proofs.Common.{ℕ, refl, ap, ◌∙◌}
use Rattle.std.proofs.lemmas.Result.{IfOk-from_err, MatchResult-from_err}
use Rattle.sr_args.specs.declared.call.Call.{Call}
use Rattle.sr_space.specs.declared.blocking.Outcome.TheVariants.{Blocked}
use Rattle.sr_space.specs.Blocking.{deadline_of, waiting_as}
use Rattle.sr_space.proofs.space.Space.begin_waiting.Goals as goal

pub returns-in_err-again : goal.returns-in_err-again
returns-in_err-again c =
    let failed = c.from_residual.ensures.0 in
    record { keys = IfOk-from_err _ _ failed; outcome = IfOk-from_err _ _ failed; err = MatchResult-from_err _ _ _ failed (λ _. refl) }

pub returns-in_err-make_consumers : goal.returns-in_err-make_consumers
returns-in_err-make_consumers c =
    let failed = c.from_residual-in_err-make_consumers.ensures.0 in
    record { keys = IfOk-from_err _ _ failed; outcome = IfOk-from_err _ _ failed; err = MatchResult-from_err _ _ _ failed (λ _. c.in_err-make_consumers.ensures.err) }

pub returns-clause-keys : goal.returns-clause-keys
returns-clause-keys c = c.in_ok-make_consumers.ensures.keys

pub returns-clause-outcome : goal.returns-clause-outcome
returns-clause-outcome c =
    ap (λ (again : Call). Blocked again c.deadline_of.result) c.in_ok-again.ensures
    ∙ ap (Blocked (waiting_as c.args.self.now c.args.call.now)) (c.deadline_of.ensures ∙ ap (λ (moment : ℕ). deadline_of moment c.args.wait) c.in_63_bits.ensures.value)
