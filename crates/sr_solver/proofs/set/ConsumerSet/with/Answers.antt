use Rattle.std.proofs.Common.{w64, sym, ◌∙◌, inl, inr, arith}
use Rattle.std.proofs.lemmas.Bool.{cases_eq}
use Rattle.std.proofs.lemmas.Nat.Bits.{bit_at_set_same, bit_at_set_other}
use Rattle.sr_solver.proofs.set.ConsumerSet.with.Goals as goal

pub returns : goal.returns
returns c = record {
  here = (c.requires, bit_at_set_same w64 c.args.self.bits c.args.consumer (omega (arith, c.requires)));
  kept = λ d was. elim (cases_eq d c.args.consumer) [
    | inl e ↦ rw e (c.requires, bit_at_set_same w64 c.args.self.bits c.args.consumer (omega (arith, c.requires)))
    | inr ne ↦
        (was.0, bit_at_set_other w64 c.args.self.bits c.args.consumer (omega (arith, c.requires)) d ne ∙ was.1)
  ];
  back = λ d now. elim (cases_eq d c.args.consumer) [
    | inl e ↦ inl e
    | inr ne ↦
        inr (now.0, sym (bit_at_set_other w64 c.args.self.bits c.args.consumer (omega (arith, c.requires)) d ne) ∙ now.1)
  ];
}
