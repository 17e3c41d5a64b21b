use Rattle.sr_start.proofs.serving.serve_begun.Given as goal

abbrev pub ghosts-serve_seats : goal.ghosts-serve_seats
ghosts-serve_seats g a = record { name = a.blank.name; parts = a.blank.parts }
