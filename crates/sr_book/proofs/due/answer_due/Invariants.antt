use Rattle.std.proofs.Common.{◌+◌, ◌≤◌, length, vec_len, vec_capacity}
use Rattle.sr_book.specs.Taken.{IsLeftOfDue}
use Rattle.sr_book.proofs.due.answer_due.Given as goal

abbrev pub invariant-loop-session : goal.invariant-loop-session
invariant-loop-session l =
    (vec_len l.sent + length l.waiters.list ≤ vec_capacity l.sent)
    × IsLeftOfDue l.index l.moment l.fn.sessions l.sessions l.fn.waiters.list l.waiters.list l.fn.sent.items l.sent.items

abbrev pub decreases-loop-session : goal.decreases-loop-session
decreases-loop-session l = length l.waiters.list
