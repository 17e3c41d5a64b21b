use Rattle.std.proofs.Common.{sym, ◌∙◌, true≢false}
use Rattle.sr_book.proofs.WatchedLemmas.{known-at, known-nobody, known-unknown, quiet-settled, settled-quiet}
use Rattle.sr_book.proofs.watched.ready_at.Goals as goal

pub returns-then-is_quiet_at : goal.returns-then-is_quiet_at
returns-then-is_quiet_at c = λ beside.
    let machine = c.args.machine.now in
    known-nobody machine (quiet-settled machine c.args.key.now beside (c.is_quiet_at.ensures.0 c.if-is_quiet_at.true))

pub returns-in-Ok : goal.returns-in-Ok
returns-in-Ok c = λ beside.
    known-at c.args.machine.now c.args.key.now beside c.in-Ok.key c.in-Ok.ensures
    (λ quiet. true≢false (sym (c.is_quiet_at.ensures.1 quiet) ∙ c.if-is_quiet_at.false))

pub returns-in-Err : goal.returns-in-Err
returns-in-Err c = λ beside.
    let machine = c.args.machine.now in
    known-unknown machine (λ settled. true≢false (sym (c.is_quiet_at.ensures.1 (settled-quiet machine c.args.key.now beside settled)) ∙ c.if-is_quiet_at.false))
