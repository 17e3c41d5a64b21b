use Rattle.std.proofs.Common.{arith}
use Rattle.sr_solver.proofs.CrowdLemmas.{confined_short}
use Rattle.sr_solver.proofs.crowd.crowded_entries.Goals as goal

pub returns : goal.returns
returns c =
    confined_short c.args.problem.now c.args.sets.now c.in-Some.crowd c.in_ok-set.set.items c.requires.sets
    c.in_ok-set.ensures (omega (arith, c.if-len-places_of.false, c.places_of.ensures, c.len.ensures))
