use Rattle.std.proofs.Common.{◌≡◌}
use Rattle.std.proofs.lemmas.Result.{err_from_is_err_and}
use Rattle.sr_args.specs.declared.options.ValueFault.TheVariants.{Number}
use Rattle.sr_args.specs.steps.Options.{trim_reading}
use Rattle.sr_args.proofs.ChoiceLemmas.{GivesTrim-from_bound, no_limit-no_numbers}
use Rattle.sr_args.proofs.options.read_trim.Goals as goal

pub returns-in_err-limit : goal.returns-in_err-limit
returns-in_err-limit c =
    let p = err_from_is_err_and c.from_residual.result c.from_residual.ensures.1 in
    let none = rw c.in_err-limit.ensures.ok_part at c.read_limit.ensures.none in
    let same = rw c.in_err-limit.ensures.ok_part at c.in_err-limit.ensures.value in
    let fault : c.in_err-limit.field-0.0 ≡ Number = cc same in
    rw (p.1, p.2, fault) (no_limit-no_numbers (trim_reading c.args.words) none)

pub returns-in_err-by : goal.returns-in_err-by
returns-in_err-by c =
    let p = err_from_is_err_and c.from_residual-in_err-by.result c.from_residual-in_err-by.ensures.1 in
    let limit = rw c.in_ok-limit.ensures.ok_part at c.read_limit.ensures.found in
    rw (p.1, p.2) (GivesTrim-from_bound (trim_reading c.args.words) c.in_ok-limit.limit c.in_err-by.field-0.0 limit c.in_err-by.ensures)
