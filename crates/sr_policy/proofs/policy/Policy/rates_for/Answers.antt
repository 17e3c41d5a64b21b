use Rattle.std.proofs.Common.{map, subst, sym}
use Rattle.sr_bytes.specs.{AreInOrder, ComesBefore}
use Rattle.sr_policy.proofs.policy.Policy.rates_for.Goals as goal

pub found-requires : goal.found-requires
found-requires c =
    subst (λ classes. AreInOrder ComesBefore (map (λ class. class.0) classes)) (sym c.as_slice.ensures.value)
    c.self.invariant.2.classes
