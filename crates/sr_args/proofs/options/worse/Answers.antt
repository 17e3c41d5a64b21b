use Rattle.sr_args.specs.steps.Options.{written_of}
use Rattle.sr_args.proofs.ChoiceLemmas.{AreJudged-number, AreJudged-id, AreJudged-fault}
use Rattle.sr_args.proofs.options.worse.Goals as goal

pub returns-in-Number : goal.returns-in-Number
returns-in-Number c = λ options judged. AreJudged-number options (written_of c.args.option) (rw c.in-Number.is at judged)

pub returns-in-Ok : goal.returns-in-Ok
returns-in-Ok c = λ options judged.
    AreJudged-id options (written_of c.args.option) c.nothing.result c.in-Ok.field-0 (rw c.in-BadId.is at judged) c.in-Ok.ensures

pub returns-in-Err : goal.returns-in-Err
returns-in-Err c = λ options judged.
    AreJudged-fault options (written_of c.args.option) c.nothing.result c.in-Err.fault (rw c.in-BadId.is at judged) c.in-Err.ensures
