use Rattle.std.proofs.Common.{sym, subst, ◌∙◌}
use Rattle.sr_book.specs.Records.{IsSettled}
use Rattle.sr_book.specs.Watched.{AreQuietBeside}
use Rattle.sr_book.proofs.WatchedLemmas.{beside-acted, known-nobody, settled-stays}
use Rattle.sr_book.proofs.watched.ready_after.Goals as goal

pub returns-then-wakes_nobody : goal.returns-then-wakes_nobody
returns-then-wakes_nobody c = λ old index moment was is.
    let quiet = sym c.wakes_nobody.ensures ∙ c.if-wakes_nobody.true in
    known-nobody c.args.machine.now (subst IsSettled (sym is) (settled-stays old moment (was c.if-settled.true) index c.args.event.now quiet))

pub returns-in-Some : goal.returns-in-Some
returns-in-Some c = λ old index moment was is.
    let key = c.in-Some.key.now in
    c.ready_at.ensures (subst (AreQuietBeside key) (sym is) (beside-acted old moment (was c.if-settled-2.true) index c.args.event.now key (sym c.in-Some.ensures)))
