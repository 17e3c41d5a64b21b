use Rattle.sr_resp.proofs.decoding.piece_of.Goals as goal

pub returns-in_ok-header_of-in-42-clause-found : goal.returns-in_ok-header_of-in-42-clause-found
returns-in_ok-header_of-in-42-clause-found c = rw c.in-42.is (c.in_ok-header_of-in-42.ensures.found c.args.after.now)
