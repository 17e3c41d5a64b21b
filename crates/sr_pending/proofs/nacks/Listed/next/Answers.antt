use Rattle.std.proofs.Common.{ℕ}
use Rattle.std.proofs.lemmas.List.Elements.{All-rest}
use Rattle.slab.specs.Slab.{ContainsKey}
use Rattle.sr_pending.proofs.nacks.Listed.next.Goals as goal

pub invariant_of-self-2 : goal.invariant_of-self-2
invariant_of-self-2 c =
    All-rest (λ (slot : ℕ). ContainsKey c.self.inside.slab.now slot) c.in_ok-slot.field-0.now c.next.new.self c.self.inside.slots c.in_ok-slot.ensures.some c.self.invariant
