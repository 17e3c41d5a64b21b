use Rattle.std.proofs.Common.{Option, ap, ◌∙◌}
use Rattle.sr_waiters.specs.Index.{Sessions, reads_of, sessions_in}
use Rattle.sr_waiters.specs.Layout.{shown_reads}
use Rattle.sr_waiters.specs.Waiters.{first_that, session_of}
use Rattle.sr_waiters.proofs.waiters.first_by_index.Goals as goal

pub returns-in-None : goal.returns-in-None
returns-in-None g c = λ test computes.
    ap (λ (o : Option Sessions). session_of (first_that test (reads_of (sessions_in o) (shown_reads c.args.reads.now.entries)))) c.in-None.ensures.value

pub returns-in-Some : goal.returns-in-Some
returns-in-Some g c = λ test computes.
    c.first_among.ensures test computes
    ∙ ap (λ (o : Option Sessions). session_of (first_that test (reads_of (sessions_in o) (shown_reads c.args.reads.now.entries)))) c.in-Some.ensures.value
