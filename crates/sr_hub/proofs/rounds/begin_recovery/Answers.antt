use Rattle.sr_args.specs.declared.call.Command.TheVariants as commands
use Rattle.sr_hub.proofs.MoveLemmas.{recovers-lacking}
use Rattle.sr_hub.proofs.rounds.begin_recovery.Goals as goal

-- the words are a command, for which memory is lacking
pub returns-in-Err-clause-answers : goal.returns-in-Err-clause-answers
returns-in-Err-clause-answers c =
    let r = c.args.recovery in
    recovers-lacking (commands.Recover r.apply r.tries r.key r.group r.dead) c.args.book.now c.args.connection.now c.tell_error.new.self c.tell_error.ensures
