use Rattle.sr_server.proofs.tests.run.desks.plays.Given as goal

abbrev pub ghosts-at_a_seat : goal.ghosts-at_a_seat
ghosts-at_a_seat g a = record { name = a.blank.name; parts = a.blank.parts }
