use Rattle.sr_server.proofs.command_line.refuse_words.Goals as goal

pub returns-then-eq-clause-memory : goal.returns-then-eq-clause-memory
returns-then-eq-clause-memory g c = λ e. c.report.ensures
