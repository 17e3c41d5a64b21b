use Rattle.std.proofs.Common.{w64, arith}
use Rattle.std.proofs.lemmas.Nat.Bits.{bit_at-trailing_zeros}
use Rattle.sr_solver.proofs.set.ConsumerSet.first.Goals as goal

pub returns-clause-some : goal.returns-clause-some
returns-clause-some c =
    let found = bit_at-trailing_zeros w64 c.args.self.bits (omega (arith, c.if-self-eq0.false)) (omega arith) in
    (found.0, found.1)
