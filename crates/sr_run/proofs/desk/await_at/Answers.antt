use Rattle.sr_run.proofs.desk.await_at.Goals as goal

pub returns-in-Ok-clause-ok : goal.returns-in-Ok-clause-ok
returns-in-Ok-clause-ok g c = c.in-Ok.ensures.ok
