use Rattle.std.proofs.Common.{◌≡◌, ◌++◌, ℕ, List, Option, length}
use Rattle.std.specs.Io.KnownBytes.{Appends}
use Rattle.std.specs.Vec.Iter.{into_iter_items, into_iter_len}
use Rattle.sr_resp.specs.{Words, Progress}
use Rattle.sr_book.specs.{BookState}
use Rattle.sr_session.specs.Answered.{Answers}
use Rattle.sr_session.specs.Desk.{IsIdle}
use Rattle.sr_session.specs.steps.Asked.{AreAsked}
use Rattle.sr_session.specs.steps.Underway.{IsAnswering}
use Rattle.sr_session.proofs.AskedLemmas.{with_waiting}
use Rattle.sr_session.proofs.run.answer_all.Given as goal

-- the requests before those that are left are answered
abbrev pub invariant-loop-one : goal.invariant-loop-one
invariant-loop-one g l =
    let A = Answers (g.C.Clock.may_tell l.clock) l.blocking l.session in
    record {
      so_far : (gets : List ℕ) × Appends (g.W.Sink.contents l.fn.writer) (g.W.Sink.contents l.writer) gets
          × ((progress : Progress) → AreAsked progress.waiting l.fn.asked.items → (found : Option BookState) (taken written : List ℕ) → IsAnswering A found taken written l.fn.replies.gathered.items l.fn.replies.sent progress (g.D.Desk.shows l.fn.desk)
          → (left : List Words) × AreAsked left (into_iter_items l.one-iterator) × IsAnswering A found taken (written ++ gets) l.replies.gathered.items l.replies.sent (with_waiting left progress) (g.D.Desk.shows l.desk));
      idle : IsIdle l.session (g.D.Desk.shows l.desk);
      noted : g.W.Sink.failed l.writer ≡ g.W.Sink.failed l.fn.writer;
      same : g.D.Desk.borrows l.desk ≡ g.D.Desk.borrows l.fn.desk;
      counted : into_iter_len l.one-iterator ≡ length (into_iter_items l.one-iterator);
    }
