use Rattle.std.proofs.Common.{arith}
use Rattle.std.proofs.lemmas.Nat.Bits.{shr_and_one}
use Rattle.std.proofs.lemmas.Bool.Decides.{nat_tests}
use Rattle.sr_solver.proofs.set.ConsumerSet.has.Goals as goal

pub returns : goal.returns
returns c =
    let bit = shr_and_one c.args.self.bits c.args.consumer in
    (λ is. (c.requires, grind (arith, nat_tests)), λ is. grind (arith, nat_tests, is.1))
