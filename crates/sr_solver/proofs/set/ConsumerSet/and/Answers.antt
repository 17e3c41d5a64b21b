use Rattle.std.proofs.Common.{inl, inr, arith}
use Rattle.std.specs.Int.{bit_at}
use Rattle.std.proofs.lemmas.Bool.{cases_eq}
use Rattle.std.proofs.lemmas.Nat.Bits.{bit_at_or, bit_at-lt}
use Rattle.sr_solver.proofs.set.ConsumerSet.and.Goals as goal

pub returns : goal.returns
returns c k =
    let both = bit_at_or c.args.self.bits c.args.others.bits k in
    let first = bit_at-lt c.args.self.bits k in
    let second = bit_at-lt c.args.others.bits k in (
      λ here. elim (cases_eq (bit_at c.args.self.bits k) 1) [
        | inl e ↦ inl (here.0, e)
        | inr ne ↦ inr (here.0, omega (arith, both, first, second, here.1, ne))
      ],
      λ either. elim either [
        | inl is ↦ (is.0, omega (arith, both, first, second, is.1))
        | inr is ↦ (is.0, omega (arith, both, first, second, is.1))
      ],
    )
