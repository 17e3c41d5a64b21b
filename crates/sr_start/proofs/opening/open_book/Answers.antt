use Rattle.std.proofs.Common.{refl, inr}
use Rattle.sr_start.proofs.ServeLemmas.{loads_before, loads_not_random}
use Rattle.sr_start.proofs.opening.open_book.Goals as goal

pub returns-in_default-clause-random : goal.returns-in_default-clause-random
returns-in_default-clause-random g c = λ e. refl

pub returns-in-Err-clause-book : goal.returns-in-Err-clause-book
returns-in-Err-clause-book g c = inr c.in-Err.ensures

pub returns-in-Err-clause-before : goal.returns-in-Err-clause-before
returns-in-Err-clause-before g c = loads_before _ _ _ c.in-Err.ensures

pub returns-in-Err-clause-random : goal.returns-in-Err-clause-random
returns-in-Err-clause-random g c = λ e. absurd (loads_not_random _ _ _ c.in-Err.ensures e)
