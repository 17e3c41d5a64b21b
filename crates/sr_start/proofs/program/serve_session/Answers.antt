use Rattle.std.proofs.Common.{◌∙◌, ap, Some}
use Rattle.sr_start.proofs.ServeLemmas.{ok_of_end, read_of_end, served_from, write_of_end}
use Rattle.sr_start.proofs.program.serve_session.Goals as goal

pub returns-clause-served : goal.returns-clause-served
returns-clause-served g c =
    let s = c.run_session-ended.ensures.session in
    (s.0, s.1, s.2, s.3, λ rules is. served_from _ _ _ _ _ _ _ _ (c.new-desk.ensures.shows ∙ ap Some is) s.4 c.outcome.ensures.value)

-- ---- each outcome has its cause

pub returns-clause-ok : goal.returns-clause-ok
returns-clause-ok g c =
    let run = c.run_session-ended.ensures in
    ok_of_end _ _ _ _ c.outcome.ensures.value c.requires.unread.0 run.closed run.heeds_end

pub returns-clause-read : goal.returns-clause-read
returns-clause-read g c =
    let run = c.run_session-ended.ensures in
    read_of_end _ _ _ _ c.outcome.ensures.value c.requires.unread.1 run.read_fault run.heeds_read_fault

pub returns-clause-write : goal.returns-clause-write
returns-clause-write g c =
    let run = c.run_session-ended.ensures in
    write_of_end _ _ _ _ c.outcome.ensures.value c.requires.unwritten run.send_fault run.heeds_send_fault
