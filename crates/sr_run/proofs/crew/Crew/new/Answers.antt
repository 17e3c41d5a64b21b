use Rattle.std.proofs.Common.{arith}
use Rattle.sr_run.proofs.WorkedLemmas.{new_crew}
use Rattle.sr_run.proofs.crew.Crew.new.Goals as goal

pub invariant_of-result : goal.invariant_of-result
invariant_of-result g c =
    let scripts = c.args.scripts in
    new_crew (λ script. script.items) scripts.len c.args.seats.items scripts.items c.requires.seats (omega (arith, scripts.ok.0)) c.requires.few
