use Rattle.std.proofs.Common.{◌≡◌, refl}
use Rattle.std.proofs.lemmas.Result.{err_from_is_err_and}
use Rattle.sr_args.specs.declared.call.Call.{Call}
use Rattle.sr_args.specs.declared.call.Call.TheVariants.{XgroupCreateConsumer}
use Rattle.sr_args.specs.declared.commands.named.ConsumerNamed.{ConsumerNamed}
use Rattle.sr_args.specs.Form.{Values}
use Rattle.sr_args.specs.commands.XgroupCreateConsumer.{form, call}
use Rattle.sr_args.specs.steps.Named.{consumer_of}
use Rattle.sr_args.proofs.GivesLemmas.{made_call, made_fault}
use Rattle.sr_args.proofs.commands.xgroup.read_xgroup_create_consumer.Goals as goal

abbrev pub call_for : ConsumerNamed → Call
call_for named = XgroupCreateConsumer (record { key = named.key; group = named.group; consumer = named.consumer })

same : (values : Values form) → call values ≡ call_for (consumer_of values)
same values = refl

pub returns-in_err-named : goal.returns-in_err-named
returns-in_err-named c =
    let p = err_from_is_err_and c.from_residual.result c.from_residual.ensures.1 in
    rw (p.1, p.2) (made_fault form consumer_of call call_for c.args.words c.in_err-named.field-0.0 same c.in_err-named.ensures)

pub returns : goal.returns
returns c = made_call form consumer_of call call_for c.args.words c.in_ok-named.named same c.in_ok-named.ensures
