use Rattle.std.proofs.Common.{◌≡◌, ℕ, w64, bit_and, ap, ◌∙◌, inl, inr, arith}
use Rattle.std.specs.Int.{bit_at, bit_not}
use Rattle.std.proofs.lemmas.Bool.{cases_eq, cases_lt}
use Rattle.std.proofs.lemmas.Bool.Decides.{nat_tests}
use Rattle.std.proofs.lemmas.Nat.Bits.{bit_at_and, bit_at_not, bit_at-lt, bit_at-zero, bit_at_above, same_from_bits}
use Rattle.sr_solver.proofs.set.ConsumerSet.is_within.Goals as goal

pub returns : goal.returns
returns c =
    let a : ℕ = c.args.self.bits in
    let b : ℕ = c.args.others.bits in
    let both = λ (k : ℕ). bit_at_and a (bit_not w64 b) k in (
      λ is k here.
          let none : bit_and a (bit_not w64 b) ≡ 0 = grind (arith, nat_tests) in
          let gone : bit_at (bit_and a (bit_not w64 b)) k ≡ 0 = ap (λ n. bit_at n k) none ∙ bit_at-zero k in
          let flipped = bit_at_not w64 b k (omega arith) (omega (arith, here.0)) in
          (here.0, omega (arith, both k, flipped, gone, bit_at-lt b k, here.1)),
      λ among.
          let none : bit_and a (bit_not w64 b) ≡ 0 = same_from_bits (bit_and a (bit_not w64 b)) 0 (λ k.
          let zero = bit_at-zero k in
          elim (cases_lt k 64) [
            | inl lt ↦
                let flipped = bit_at_not w64 b k (omega arith) lt in
                elim (cases_eq (bit_at a k) 1) [
                  | inl e ↦
                      let there = among k (lt, e) in
                      omega (arith, both k, flipped, zero, there.1)
                  | inr ne ↦ omega (arith, both k, zero, bit_at-lt a k, ne)
                ]
            | inr over ↦
                let above = bit_at_above a 64 k (omega arith) over in
                omega (arith, both k, zero, above)
          ]) in
          grind (arith, nat_tests),
    )
