use Rattle.std.proofs.Common.{◌≡◌, refl}
use Rattle.std.proofs.lemmas.Result.{err_from_is_err_and}
use Rattle.sr_args.specs.declared.call.Call.{Call}
use Rattle.sr_args.specs.declared.call.Call.TheVariants.{XgroupDestroy}
use Rattle.sr_args.specs.declared.commands.named.GroupNamed.{GroupNamed}
use Rattle.sr_args.specs.Form.{Values}
use Rattle.sr_args.specs.commands.XgroupDestroy.{form, call}
use Rattle.sr_args.specs.steps.Named.{group_of}
use Rattle.sr_args.proofs.GivesLemmas.{made_call, made_fault}
use Rattle.sr_args.proofs.commands.xgroup.read_xgroup_destroy.Goals as goal

abbrev pub call_for : GroupNamed → Call
call_for named = XgroupDestroy (record { key = named.key; group = named.group })

same : (values : Values form) → call values ≡ call_for (group_of values)
same values = refl

pub returns-in_err-named : goal.returns-in_err-named
returns-in_err-named c =
    let p = err_from_is_err_and c.from_residual.result c.from_residual.ensures.1 in
    rw (p.1, p.2) (made_fault form group_of call call_for c.args.words c.in_err-named.field-0.0 same c.in_err-named.ensures)

pub returns : goal.returns
returns c = made_call form group_of call call_for c.args.words c.in_ok-named.named same c.in_ok-named.ensures
