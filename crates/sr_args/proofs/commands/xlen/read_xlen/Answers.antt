use Rattle.std.proofs.Common.{◌≡◌, refl}
use Rattle.std.proofs.lemmas.Result.{err_from_is_err_and}
use Rattle.sr_args.specs.declared.call.Call.{Call}
use Rattle.sr_args.specs.declared.call.Call.TheVariants.{Xlen}
use Rattle.sr_args.specs.FormWord.{Word}
use Rattle.sr_args.specs.Form.{Values}
use Rattle.sr_args.specs.commands.Xlen.{form, call}
use Rattle.sr_args.specs.steps.Named.{key_of}
use Rattle.sr_args.proofs.GivesLemmas.{made_call, made_fault}
use Rattle.sr_args.proofs.commands.xlen.read_xlen.Goals as goal

abbrev pub call_for : Word → Call
call_for named = Xlen (record { key = named })

same : (values : Values form) → call values ≡ call_for (key_of values)
same values = refl

pub returns-in_err-key : goal.returns-in_err-key
returns-in_err-key c =
    let p = err_from_is_err_and c.from_residual.result c.from_residual.ensures.1 in
    rw (p.1, p.2) (made_fault form key_of call call_for c.args.words c.in_err-key.field-0.0 same c.in_err-key.ensures)

pub returns : goal.returns
returns c = made_call form key_of call call_for c.args.words c.in_ok-key.key same c.in_ok-key.ensures
