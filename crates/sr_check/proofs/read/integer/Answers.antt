use Rattle.std.proofs.Common.{arith}
use Rattle.sr_check.proofs.ReadLemmas.{HasNumber-of_integer, HasNumber-one}
use Rattle.sr_check.proofs.read.integer.Goals as goal

pub returns-then-n-clause-none : goal.returns-then-n-clause-none
returns-then-n-clause-none c = λ n after has.
    let bytes = c.args.bytes.now in
    let same = HasNumber-one bytes 58 c.in_ok-n.n n c.in_ok-n.after.now after c.in_ok-n.ensures.found
    (HasNumber-of_integer bytes n after has) in
    absurd (omega (arith, same.0, has.fits, c.if-n.true))
