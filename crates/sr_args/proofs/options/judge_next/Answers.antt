use Rattle.sr_args.specs.steps.Options.{written_of}
use Rattle.sr_args.proofs.ChoiceLemmas.{AreJudged-after}
use Rattle.sr_args.proofs.options.judge_next.Goals as goal

pub returns-in-Ok : goal.returns-in-Ok
returns-in-Ok c = λ options judged.
    AreJudged-after options (written_of c.args.option) c.in-Ok.choice c.judge.result (rw c.in-Ok.is at judged) c.judge.ensures

pub returns-in-Err : goal.returns-in-Err
returns-in-Err c = λ options judged. c.worse.ensures options (rw c.in-Err.is at judged)
