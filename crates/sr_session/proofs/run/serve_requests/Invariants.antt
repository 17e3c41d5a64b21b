use Rattle.std.proofs.Common.{◌≡◌, [], ℕ, List}
use Rattle.std.specs.Io.KnownBytes.{Appends, Consumes}
use Rattle.sr_session.specs.Answered.{Answers}
use Rattle.sr_session.specs.Desk.{IsIdle}
use Rattle.sr_session.specs.Source.{CountsReads}
use Rattle.sr_session.specs.steps.Underway.{GoesOn}
use Rattle.sr_session.proofs.run.serve_requests.Given as goal

-- what was taken so far is answered, and the replies were sent
abbrev pub invariant-loop-turn : goal.invariant-loop-turn
invariant-loop-turn g l = record {
  bytes : (taken : List ℕ) × (written : List ℕ) × Consumes (g.R.Source.remaining l.fn.reader) (g.R.Source.remaining l.reader) taken × Appends (g.W.Sink.contents l.fn.writer) (g.W.Sink.contents l.writer) written × GoesOn (Answers (g.C.Clock.may_tell l.clock) l.blocking l.session) (g.D.Desk.shows l.fn.desk) taken written l.replies.sent l.requests (g.D.Desk.shows l.desk);
  none_gathered : l.replies.gathered.items ≡ [];
  idle : IsIdle l.session (g.D.Desk.shows l.desk);
  reads : CountsReads (g.R.Source.reads l.fn.reader) (g.R.Source.reads l.reader) l._turn;
  ended : g.R.Source.ended l.reader ≡ g.R.Source.ended l.fn.reader;
  read_failed : g.R.Source.failed l.reader ≡ g.R.Source.failed l.fn.reader;
  write_failed : g.W.Sink.failed l.writer ≡ g.W.Sink.failed l.fn.writer;
  same : g.D.Desk.borrows l.desk ≡ g.D.Desk.borrows l.fn.desk;
}
