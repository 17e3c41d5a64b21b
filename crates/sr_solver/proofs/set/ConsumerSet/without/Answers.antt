use Rattle.std.proofs.Common.{◌≡◌, ℕ, ◌≤◌, ◌*◌, ◌^◌, ◌-◌, ◌%◌, bit_and, w64, sym, ap, ◌∙◌, inl, inr, arith}
use Rattle.std.specs.Int.{bit_at}
use Rattle.std.proofs.lemmas.Bool.{cases_eq, cases_lt}
use Rattle.std.proofs.lemmas.Nat.{and_le_l}
use Rattle.std.proofs.lemmas.Nat.Bits.{bit_at_clear_same, bit_at_clear_other}
use Rattle.sr_solver.proofs.set.ConsumerSet.without.Goals as goal

pub returns : goal.returns
returns c =
    let k : ℕ = c.args.consumer in
    let bits : ℕ = c.args.self.bits in
    let new : ℕ = bit_and bits (18446744073709551615 - 1 * 2 ^ k % 18446744073709551616) in
    let gone : bit_at new k ≡ 0 = bit_at_clear_same w64 bits k (omega (arith, c.requires)) in
    record {
      gone = λ now. omega (arith, gone, now.1);
      kept = λ d ne was. (was.0, bit_at_clear_other w64 bits k (omega (arith, c.requires)) d (omega (arith, was.0)) ne ∙ was.1);
      back = λ d now. elim (cases_eq d k) [
        | inl e ↦ absurd (omega (arith, gone, (let here : bit_at new k ≡ 1 = rw e at now.1 in here)))
        | inr ne ↦
            (now.0, sym (bit_at_clear_other w64 bits k (omega (arith, c.requires)) d (omega (arith, now.0)) ne) ∙ now.1)
      ];
      less = λ was. elim (cases_lt new bits) [
        | inl less ↦ less
        | inr more ↦
            let most : new ≤ bits = and_le_l bits (18446744073709551615 - 1 * 2 ^ k % 18446744073709551616) in
            let same : new ≡ bits = omega (arith, most, more) in
            let here : bit_at new k ≡ 1 = ap (λ n. bit_at n k) same ∙ was.1 in
            absurd (omega (arith, here, gone))
      ];
    }
