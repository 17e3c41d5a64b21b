use Rattle.std.proofs.Common.{refl}
use Rattle.std.proofs.lemmas.Result.{err_from_is_err_and}
use Rattle.sr_args.specs.declared.call.Call.TheVariants.{Xtrim}
use Rattle.sr_args.specs.steps.Options.{trim_reading}
use Rattle.sr_args.proofs.XtrimLemmas.{xtrim-gives}
use Rattle.sr_args.proofs.commands.xtrim.read_xtrim.Goals as goal

pub returns-in_err-key : goal.returns-in_err-key
returns-in_err-key c =
    let p = err_from_is_err_and c.from_residual-in_err-key.result c.from_residual-in_err-key.ensures.1 in
    let read = c.in-Some.read in
    rw (p.1, p.2) (Xtrim (record { key = read.key.now; trim = c.in_ok-trim.trim }), xtrim-gives c.args.words read.key.now read.key.now (trim_reading read.trim) c.in_ok-trim.trim c.in-Some.ensures.found refl c.in_ok-trim.ensures)

pub returns : goal.returns
returns c =
    let read = c.in-Some.read in
    xtrim-gives c.args.words read.key.now c.in_ok-key.key (trim_reading read.trim) c.in_ok-trim.trim c.in-Some.ensures.found c.in_ok-key.ensures c.in_ok-trim.ensures
