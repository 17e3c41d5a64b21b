use Rattle.std.proofs.Common.{◌≡◌, true, refl}
use Rattle.std.proofs.lemmas.Result.{err_from_is_err_and}
use Rattle.sr_args.specs.declared.call.Command.{Command}
use Rattle.sr_args.specs.declared.call.Command.TheVariants.{Recover}
use Rattle.sr_args.specs.declared.commands.recover.Rounds.{Rounds}
use Rattle.sr_args.specs.FormWord.{Word}
use Rattle.sr_args.specs.Form.{Values}
use Rattle.sr_args.specs.commands.RecoverRun.{command}
use Rattle.sr_args.specs.steps.Rounds.{rounds_form, rounds_of}
use Rattle.sr_args.proofs.GivesLemmas.{in_group_call, in_group_fault}
use Rattle.sr_args.proofs.commands.recover.read_recover_run.Goals as goal

abbrev made : Word → Word → Rounds → Command
made key group rounds = Recover true rounds.tries key group rounds.dead

same : (key group : Word) (values : Values rounds_form) → command (key, (group, values)) ≡ made key group (rounds_of values)
same key group values = refl

pub returns-in_err-rounds : goal.returns-in_err-rounds
returns-in_err-rounds c =
    let p = err_from_is_err_and c.from_residual.result c.from_residual.ensures.1 in
    rw (p.1, p.2) (in_group_fault rounds_form rounds_of command made c.args.words c.next.new.self c.next-2.new.self c.in-Some.key.now c.in-Some-next.group.now c.in_err-rounds.field-0.0 same c.in-Some.ensures.some c.in-Some-next.ensures.some c.in_err-rounds.ensures)

pub returns-in_err-key : goal.returns-in_err-key
returns-in_err-key c =
    let p = err_from_is_err_and c.from_residual-in_err-key.result c.from_residual-in_err-key.ensures.1 in
    rw (p.1, p.2) (_, in_group_call rounds_form rounds_of command made c.args.words c.next.new.self c.next-2.new.self c.in-Some.key.now c.in-Some-next.group.now c.in-Some.key.now c.in-Some-next.group.now c.in_ok-rounds.rounds same c.in-Some.ensures.some c.in-Some-next.ensures.some refl refl c.in_ok-rounds.ensures)

pub returns-in_err-group : goal.returns-in_err-group
returns-in_err-group c =
    let p = err_from_is_err_and c.from_residual-in_err-group.result c.from_residual-in_err-group.ensures.1 in
    rw (p.1, p.2) (_, in_group_call rounds_form rounds_of command made c.args.words c.next.new.self c.next-2.new.self c.in-Some.key.now c.in-Some-next.group.now c.in_ok-key.key c.in-Some-next.group.now c.in_ok-rounds.rounds same c.in-Some.ensures.some c.in-Some-next.ensures.some c.in_ok-key.ensures refl c.in_ok-rounds.ensures)

pub returns : goal.returns
returns c = in_group_call rounds_form rounds_of command made c.args.words c.next.new.self c.next-2.new.self c.in-Some.key.now c.in-Some-next.group.now c.in_ok-key.key c.in_ok-group.group c.in_ok-rounds.rounds same c.in-Some.ensures.some c.in-Some-next.ensures.some c.in_ok-key.ensures c.in_ok-group.ensures c.in_ok-rounds.ensures
