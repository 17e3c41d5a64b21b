use Rattle.std.proofs.Common.{[], refl, ◌∙◌, subst}
use Rattle.std.proofs.KnownBytes.{Appends-nil, Consumes-nil}
use Rattle.sr_session.specs.Whole.{joins, joins_not}
use Rattle.sr_session.specs.steps.Calling.{IsDeskEnd}
use Rattle.sr_session.proofs.RunLemmas.{CountsReads-none, no_turns}
use Rattle.sr_session.proofs.run.run_session.Goals as goal

pub returns-in-Ok : goal.returns-in-Ok
returns-in-Ok g c =
    let served = c.serve_requests-end.ensures in
    let done = served.session in
    record {
      session = (done.0, done.1, done.2, done.3, joins c.in-Ok.session _ _ c.in-Ok.ensures.ok done.4 c.leave-left.ensures.left);
      reads = served.reads;
      same = c.leave-left.ensures.same ∙ served.same ∙ c.in-Ok.ensures.same;
      closed = served.closed;
      read_fault = served.read_fault;
      send_fault = served.send_fault;
      heeds_end = served.heeds_end;
      heeds_read_fault = served.heeds_read_fault;
      heeds_send_fault = served.heeds_send_fault;
    }

pub returns-in-Err : goal.returns-in-Err
returns-in-Err g c =
    let why = c.in-Err.ensures.err in
    let end = c.in-Err.ensures.end in
    record {
      session = ([], [], Consumes-nil _, Appends-nil _, joins_not why.told why.result why.by_clock why.step why.unjoined refl refl refl);
      reads = (0, no_turns _, CountsReads-none _, λ e. absurd (subst IsDeskEnd e end));
      same = c.in-Err.ensures.same;
      closed = λ e. absurd (subst IsDeskEnd e end);
      read_fault = λ e. absurd (subst IsDeskEnd e end);
      send_fault = λ sent e. absurd (subst IsDeskEnd e end);
      heeds_end = λ other. refl;
      heeds_read_fault = λ other. refl;
      heeds_send_fault = λ other. refl;
    }
