use Rattle.std.proofs.Common.{arith}
use Rattle.std.proofs.lemmas.List.{length-take}
use Rattle.sr_group.specs.Group.{idle_for}
use Rattle.sr_group.proofs.listing.Idle.new.Goals as goal

pub returns-clause-few : goal.returns-clause-few
returns-clause-few c =
    omega (arith, length-take c.args.left (idle_for c.args.least_idle c.args.moment c.args.rest))
