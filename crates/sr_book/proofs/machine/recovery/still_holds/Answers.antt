use Rattle.sr_book.proofs.machine.recovery.still_holds.Goals as goal

pub returns : goal.returns
returns c = c.eq.ensures
