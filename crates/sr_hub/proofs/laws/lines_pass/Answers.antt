use Rattle.sr_hub.proofs.FrameLemmas.{line-passes}
use Rattle.sr_hub.proofs.laws.lines_pass.Goals as goal

pub returns : goal.returns
returns c = line-passes
