use Rattle.sr_session.proofs.DeskLemmas.{await-memory}
use Rattle.sr_session.proofs.calling.await_letter.Goals as goal

pub returns-in-Err-Memory-clause-err : goal.returns-in-Err-Memory-clause-err
returns-in-Err-Memory-clause-err g c = await-memory _ _ _ (rw c.in-Err-Memory.field-0-is at c.in-Err-Memory.ensures.letter)

pub returns-in-Ok-clause-err : goal.returns-in-Ok-clause-err
returns-in-Ok-clause-err g c = tt
