use Rattle.sr_args.proofs.AnswerLemmas.{Answers-one}
use Rattle.sr_args.proofs.read.one_answer.Goals as goal

pub returns : goal.returns
returns c = Answers-one
