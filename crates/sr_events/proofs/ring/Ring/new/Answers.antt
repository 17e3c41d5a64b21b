use Rattle.sr_events.proofs.RingLemmas.{IsRing-nil}
use Rattle.sr_events.proofs.ring.Ring.new.Goals as goal

pub invariant_of-result : goal.invariant_of-result
invariant_of-result c =
    IsRing-nil c.args.most _ _ c.in_ok-with_capacity.ensures
    (c.in_ok-from_elem.ensures.items_if_clones_equal (λ y same. same))
