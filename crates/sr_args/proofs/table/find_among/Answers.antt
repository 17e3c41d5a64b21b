use Rattle.std.proofs.Common.{◌<◌, ◌∷◌, length, arith}
use Rattle.sr_args.specs.steps.Names.{shown}
use Rattle.sr_args.proofs.NameLemmas.{AreOther-more}
use Rattle.sr_args.proofs.table.find_among.Goals as goal

pub loop-command-preserved : goal.loop-command-preserved
loop-command-preserved c =
    let commands = c.args.commands.now in
    let place = c.loop-command.command-index in
    let within : place < length commands = omega arith in
    AreOther-more commands place _ (shown c.row_of.result) (c.args.word.now ∷ c.args.rest.now) c.row_of.ensures within c.loop-command.invariant c.in-Other.ensures
