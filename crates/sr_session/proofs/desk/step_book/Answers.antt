use Rattle.sr_session.proofs.DeskLemmas.{joins-idle}
use Rattle.sr_session.proofs.desk.step_book.Goals as goal

pub returns-in-Ok-clause-joined : goal.returns-in-Ok-clause-joined
returns-in-Ok-clause-joined c = λ session joins out. joins-idle _ _ _ _ _ session c.legal.ensures joins c.in-Ok.ensures.ok out
