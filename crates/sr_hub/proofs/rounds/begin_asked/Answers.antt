use Rattle.std.proofs.Common.{◌∙◌, ap, subst, sym}
use Rattle.sr_args.specs.declared.call.Command.TheVariants as commands
use Rattle.sr_hub.specs.Line.{ConnectionState}
use Rattle.sr_hub.specs.declared.stage.Recovery.{Recovery}
use Rattle.sr_hub.specs.declared.stage.Stage.TheVariants as stages
use Rattle.sr_hub.specs.steps.Moves.{AnswersAs}
use Rattle.sr_hub.proofs.MoveLemmas.{moves-asked, moves-none}
use Rattle.sr_hub.proofs.rounds.begin_asked.Goals as goal

pub returns-then-not-asks-clause-moves : goal.returns-then-not-asks-clause-moves
returns-then-not-asks-clause-moves c = moves-none c.args.book.now c.args.connection.now

pub returns-clause-moves : goal.returns-clause-moves
returns-clause-moves c =
    moves-asked c.args.book.now c.args.connection.now c.pass_to.new.self c.in-Asks.asked c.begin_recovery.new.book c.begin_recovery.new.connection
    (sym c.in-Asks.is ∙ c.take_stage.ensures.stage)
    (c.pass_to.ensures ∙ ap (λ (l : ConnectionState). record l { stage = stages.Idle }) c.take_stage.ensures.rest)
    (subst (λ (r : Recovery). AnswersAs (commands.Recover r.apply r.tries r.key r.group r.dead) c.args.book.now c.pass_to.new.self c.begin_recovery.new.book c.begin_recovery.new.connection)
    c.into_inner.ensures c.begin_recovery.ensures.answers)
