use Rattle.sr_resp.proofs.StageLemmas.{length_on, length_ends, length_bad}
use Rattle.sr_resp.proofs.stage.in_length.Goals as goal

pub returns-in-Digit : goal.returns-in-Digit
returns-in-Digit c = length_on c.args.others c.args.room c.min.result c.args.digits c.args.value c.args.byte c.in-Digit.digits c.in-Digit.value c.min.ensures c.requires.room c.in-Digit.ensures

pub returns-in-End : goal.returns-in-End
returns-in-End c = length_ends c.args.others c.args.room c.min.result c.args.digits c.args.value c.args.byte c.min.ensures c.requires.room c.requires.value c.in-End.ensures

pub returns-in-Bad : goal.returns-in-Bad
returns-in-Bad c = length_bad c.args.others c.args.room c.min.result c.args.digits c.args.value c.args.byte c.min.ensures c.in-Bad.ensures
