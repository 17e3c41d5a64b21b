use Rattle.sr_live.specs.Conclusion.{script_text}
use Rattle.sr_live.proofs.conclusion.text_of_script.Goals as goal

pub returns : goal.returns
unfolding script_text
returns c = c.as_bytes.ensures.value
