use Rattle.sr_space.proofs.LawLemmas.{at_once-error}
use Rattle.sr_space.proofs.laws.errors_change_nothing.Goals as goal

pub returns : goal.returns
returns c = at_once-error
