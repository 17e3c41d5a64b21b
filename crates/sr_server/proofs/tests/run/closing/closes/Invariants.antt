use Rattle.sr_server.proofs.tests.run.closing.closes.Given as goal

abbrev pub ghosts-closes_by : goal.ghosts-closes_by
ghosts-closes_by g a = record { name = a.blank.name; parts = a.blank.parts }
