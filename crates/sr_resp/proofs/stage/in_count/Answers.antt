use Rattle.sr_resp.proofs.StageLemmas.{count_on, count_ends, count_bad}
use Rattle.sr_resp.proofs.stage.in_count.Goals as goal

pub returns-in-Digit : goal.returns-in-Digit
returns-in-Digit c = count_on c.args.digits c.args.value c.args.byte c.in-Digit.digits c.in-Digit.value c.in-Digit.ensures

pub returns-in-End : goal.returns-in-End
returns-in-End c = count_ends c.args.digits c.args.value c.args.byte c.in-End.ensures

pub returns-in-Bad : goal.returns-in-Bad
returns-in-Bad c = count_bad c.args.digits c.args.value c.args.byte c.in-Bad.ensures
