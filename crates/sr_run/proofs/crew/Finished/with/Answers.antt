use Rattle.sr_run.proofs.crew.Finished.with.Goals as goal

pub returns-clause-receipts : goal.returns-clause-receipts
returns-clause-receipts g c = c.in_ok-append-2.ensures.items
