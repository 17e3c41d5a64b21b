use Rattle.std.proofs.Common.{◌≡◌, refl}
use Rattle.std.proofs.lemmas.Result.{err_from_is_err_and}
use Rattle.sr_args.specs.declared.call.Command.{Command}
use Rattle.sr_args.specs.declared.call.Command.TheVariants.{Board}
use Rattle.sr_args.specs.declared.commands.named.GroupNamed.{GroupNamed}
use Rattle.sr_args.specs.Form.{Values}
use Rattle.sr_args.specs.commands.RecoverBoard.{form, command}
use Rattle.sr_args.specs.steps.Named.{group_of}
use Rattle.sr_args.proofs.GivesLemmas.{made_call, made_fault}
use Rattle.sr_args.proofs.commands.recover.read_recover_board.Goals as goal

abbrev pub board_for : GroupNamed → Command
board_for named = Board named.key named.group

same : (values : Values form) → command values ≡ board_for (group_of values)
same values = refl

pub returns-in_err-named : goal.returns-in_err-named
returns-in_err-named c =
    let p = err_from_is_err_and c.from_residual.result c.from_residual.ensures.1 in
    rw (p.1, p.2) (made_fault form group_of command board_for c.args.words c.in_err-named.field-0.0 same c.in_err-named.ensures)

pub returns : goal.returns
returns c = made_call form group_of command board_for c.args.words c.in_ok-named.named same c.in_ok-named.ensures
