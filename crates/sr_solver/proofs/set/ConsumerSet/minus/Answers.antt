use Rattle.std.proofs.Common.{w64, inl, inr, arith}
use Rattle.std.proofs.lemmas.Nat.Bits.{bit_at_and, bit_at_not, bit_at-lt}
use Rattle.std.specs.Int.{bit_not}
use Rattle.std.proofs.lemmas.Bool.{cases_eq}
use Rattle.std.specs.Int.{bit_at}
use Rattle.sr_solver.proofs.set.ConsumerSet.minus.Goals as goal

pub returns : goal.returns
returns c k =
    let both = bit_at_and c.args.self.bits (bit_not w64 c.args.others.bits) k in
    let first = bit_at-lt c.args.self.bits k in
    let second = bit_at-lt c.args.others.bits k in (
      λ here.
          let flipped = bit_at_not w64 c.args.others.bits k (omega arith) (omega (arith, here.0)) in (
            (here.0, omega (arith, both, flipped, first, second, here.1)),
            λ is. omega (arith, both, flipped, first, second, here.1, is.1),
          ),
      λ apart.
          let flipped = bit_at_not w64 c.args.others.bits k (omega arith) (omega (arith, apart.0.0)) in
          elim (cases_eq (bit_at c.args.others.bits k) 1) [
            | inl e ↦ absurd (apart.1 (apart.0.0, e))
            | inr ne ↦ (apart.0.0, omega (arith, both, flipped, first, second, apart.0.1, ne))
          ],
    )
