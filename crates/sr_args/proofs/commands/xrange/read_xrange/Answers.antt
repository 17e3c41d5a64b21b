use Rattle.std.proofs.Common.{◌≡◌, refl}
use Rattle.std.proofs.lemmas.Result.{err_from_is_err_and}
use Rattle.sr_args.specs.declared.call.Call.{Call}
use Rattle.sr_args.specs.declared.call.Call.TheVariants.{Xrange}
use Rattle.sr_args.specs.declared.commands.xrange.Asked.{Asked}
use Rattle.sr_args.specs.declared.commands.xrange.Bound.TheVariants.{Start, End}
use Rattle.sr_args.specs.Form.{Values}
use Rattle.sr_args.specs.commands.Xrange.{form, call}
use Rattle.sr_args.specs.steps.Ranges.{asked_of}
use Rattle.sr_args.proofs.GivesLemmas.{made_call, made_fault}
use Rattle.sr_args.proofs.commands.xrange.read_xrange.Goals as goal

abbrev pub call_for : Asked → Call
call_for asked = Xrange (record { key = asked.key; start = asked.first; end = asked.second; count = asked.count })

same : (values : Values form) → call values ≡ call_for (asked_of Start End values)
same values = refl

pub returns-in_err-asked : goal.returns-in_err-asked
returns-in_err-asked c =
    let p = err_from_is_err_and c.from_residual.result c.from_residual.ensures.1 in
    rw (p.1, p.2) (made_fault form (asked_of Start End) call call_for c.args.words c.in_err-asked.field-0.0 same c.in_err-asked.ensures)

pub returns : goal.returns
returns c = made_call form (asked_of Start End) call call_for c.args.words c.in_ok-asked.asked same c.in_ok-asked.ensures
