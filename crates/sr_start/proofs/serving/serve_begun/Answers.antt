use Rattle.sr_start.proofs.serving.serve_begun.Goals as goal

pub serve_seats-requires-clause-parts : goal.serve_seats-requires-clause-parts
serve_seats-requires-clause-parts g c κs within = c.new-blank.ensures

pub returns : goal.returns
returns g c = record { ok = c.serve_seats.ensures.ok }
