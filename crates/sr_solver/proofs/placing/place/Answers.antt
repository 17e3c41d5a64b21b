use Rattle.std.proofs.Common.{sym}
use Rattle.std.proofs.lemmas.Bool.{false≢true}
use Rattle.sr_solver.proofs.placing.place.Goals as goal

pub search-requires-clause-seeker : goal.search-requires-clause-seeker
search-requires-clause-seeker c = record { entry = c.requires.entry; standing = c.requires.standing }

pub search-requires-clause-table : goal.search-requires-clause-table
search-requires-clause-table c = c.requires.table

pub search-requires-clause-labels : goal.search-requires-clause-labels
search-requires-clause-labels c = c.requires.labels

pub returns-in_default-clause-standing : goal.returns-in_default-clause-standing
returns-in_default-clause-standing c = λ yes. absurd (false≢true yes)

pub returns-in_default-clause-table : goal.returns-in_default-clause-table
returns-in_default-clause-table c = λ yes. absurd (false≢true yes)

pub returns-in_default-clause-stuck : goal.returns-in_default-clause-stuck
returns-in_default-clause-stuck c = λ no.
    let placed = c.requires.standing.placed in
    record {
      entry = c.requires.entry;
      placed_below = placed.placed;
      waiting = placed.waiting;
      every = placed.every;
      lost = c.in_default.ensures.found;
    }

pub returns-clause-stuck : goal.returns-clause-stuck
returns-clause-stuck c = λ no. absurd (false≢true (sym no))

pub settle-requires-clause-entry : goal.settle-requires-clause-entry
settle-requires-clause-entry c = c.requires.entry

pub settle-requires-clause-standing : goal.settle-requires-clause-standing
settle-requires-clause-standing c = c.requires.standing

pub settle-requires-clause-table : goal.settle-requires-clause-table
settle-requires-clause-table c = c.search.ensures.table

pub settle-requires-clause-found : goal.settle-requires-clause-found
settle-requires-clause-found c = rw c.deref.ensures.value c.in-Some.ensures.found

pub returns-clause-standing : goal.returns-clause-standing
returns-clause-standing c = λ yes. c.settle.ensures.standing

pub returns-clause-table : goal.returns-clause-table
returns-clause-table c = λ yes. c.settle.ensures.table
