use Rattle.std.proofs.Common.{◌≡◌, List, false, refl}
use Rattle.std.proofs.lemmas.Result.{err_from_is_err_and}
use Rattle.sr_args.specs.declared.call.Command.{Command}
use Rattle.sr_args.specs.declared.call.Command.TheVariants.{Recover}
use Rattle.sr_args.specs.FormWord.{Word}
use Rattle.sr_args.specs.Form.{Values}
use Rattle.sr_args.specs.commands.RecoverPlan.{command}
use Rattle.sr_args.specs.commands.RecoverRun.{usual_tries}
use Rattle.sr_args.specs.steps.Rounds.{dead_form, dead_of}
use Rattle.sr_args.proofs.GivesLemmas.{in_group_call, in_group_fault}
use Rattle.sr_args.proofs.commands.recover.read_recover_plan.Goals as goal

abbrev made : Word → Word → List Word → Command
made key group dead = Recover false usual_tries key group dead

same : (key group : Word) (values : Values dead_form) → command (key, (group, values)) ≡ made key group (dead_of values)
same key group values = refl

pub returns-in_err-dead : goal.returns-in_err-dead
returns-in_err-dead c =
    let p = err_from_is_err_and c.from_residual.result c.from_residual.ensures.1 in
    rw (p.1, p.2) (in_group_fault dead_form dead_of command made c.args.words c.next.new.self c.next-2.new.self c.in-Some.key.now c.in-Some-next.group.now c.in_err-dead.field-0.0 same c.in-Some.ensures.some c.in-Some-next.ensures.some c.in_err-dead.ensures)

pub returns-in_err-key : goal.returns-in_err-key
returns-in_err-key c =
    let p = err_from_is_err_and c.from_residual-in_err-key.result c.from_residual-in_err-key.ensures.1 in
    rw (p.1, p.2) (_, in_group_call dead_form dead_of command made c.args.words c.next.new.self c.next-2.new.self c.in-Some.key.now c.in-Some-next.group.now c.in-Some.key.now c.in-Some-next.group.now c.in_ok-dead.dead same c.in-Some.ensures.some c.in-Some-next.ensures.some refl refl c.in_ok-dead.ensures)

pub returns-in_err-group : goal.returns-in_err-group
returns-in_err-group c =
    let p = err_from_is_err_and c.from_residual-in_err-group.result c.from_residual-in_err-group.ensures.1 in
    rw (p.1, p.2) (_, in_group_call dead_form dead_of command made c.args.words c.next.new.self c.next-2.new.self c.in-Some.key.now c.in-Some-next.group.now c.in_ok-key.key c.in-Some-next.group.now c.in_ok-dead.dead same c.in-Some.ensures.some c.in-Some-next.ensures.some c.in_ok-key.ensures refl c.in_ok-dead.ensures)

pub returns : goal.returns
returns c = in_group_call dead_form dead_of command made c.args.words c.next.new.self c.next-2.new.self c.in-Some.key.now c.in-Some-next.group.now c.in_ok-key.key c.in_ok-group.group c.in_ok-dead.dead same c.in-Some.ensures.some c.in-Some-next.ensures.some c.in_ok-key.ensures c.in_ok-group.ensures c.in_ok-dead.ensures
