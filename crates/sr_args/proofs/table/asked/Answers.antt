use Rattle.std.proofs.Common.{Err, refl}
use Rattle.std.proofs.lemmas.Result.{err_from_is_err_and}
use Rattle.sr_args.specs.declared.call.Command.TheVariants.{Call}
use Rattle.sr_args.specs.steps.Gives.{Gives}
use Rattle.sr_args.proofs.GivesLemmas.{made_fault}
use Rattle.sr_args.proofs.table.asked.Goals as goal

pub returns-in_err-call : goal.returns-in_err-call
returns-in_err-call c =
    let p = err_from_is_err_and c.from_residual.result c.from_residual.ensures.1 in
    rw (p.1, p.2) (λ form call words g.
    let fault : Gives form call words (Err c.in_err-call.field-0.0) = rw c.in_err-call.was at g in
    made_fault form call (λ values. Call (call values)) Call words c.in_err-call.field-0.0 (λ values. refl) fault)
