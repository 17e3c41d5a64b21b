use Rattle.std.proofs.Common.{◌≡◌}
use Rattle.std.proofs.lemmas.Result.{err_from_is_err_and}
use Rattle.sr_args.specs.declared.options.ValueFault.TheVariants.{Number}
use Rattle.sr_args.proofs.options.read_bound.Goals as goal

pub returns-in_err-length-in-MaxLen : goal.returns-in_err-length-in-MaxLen
returns-in_err-length-in-MaxLen c =
    let p = err_from_is_err_and c.from_residual.result c.from_residual.ensures.1 in
    let none = rw c.in_err-length-in-MaxLen.ensures.ok_part at c.read_nat.ensures.none in
    let same = rw c.in_err-length-in-MaxLen.ensures.ok_part at c.in_err-length-in-MaxLen.ensures.value in
    let fault : c.in_err-length-in-MaxLen.field-0.0 ≡ Number = cc same in
    rw (p.1, p.2, fault, c.in-MaxLen.is) (λ number. none number.0 number.1)
