use Rattle.std.proofs.Common.{subst, sym}
use Rattle.sr_args.specs.declared.call.Command.TheVariants as commands
use Rattle.sr_args.specs.declared.fault.CallFault.TheVariants as call_faults
use Rattle.sr_args.specs.{IsCommand}
use Rattle.sr_hub.specs.declared.stage.Recovery.{Recovery}
use Rattle.sr_hub.proofs.MoveLemmas.{answers-asked, answers-fault}
use Rattle.sr_hub.proofs.rounds.ask_recovery.Goals as goal

pub returns-in-Ok-clause-answers : goal.returns-in-Ok-clause-answers
returns-in-Ok-clause-answers c = λ book words is.
    answers-asked words book c.args.connection.now c.pass_to.new.self c.in-Ok.asked
    (subst (λ (r : Recovery). IsCommand words (commands.Recover r.apply r.tries r.key r.group r.dead)) (sym c.in-Ok.ensures.ok) is) c.pass_to.ensures

-- the words are a command, for which memory is lacking
pub returns-clause-answers : goal.returns-clause-answers
returns-clause-answers c = λ book words is.
    let r = c.args.recovery in
    answers-fault words call_faults.Memory book c.args.connection.now c.tell_error.new.self (commands.Recover r.apply r.tries r.key r.group r.dead, is) c.tell_error.ensures
