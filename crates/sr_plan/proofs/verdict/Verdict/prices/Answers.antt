use Rattle.sr_plan.proofs.BestLemmas.{ArePrices-best}
use Rattle.sr_plan.proofs.verdict.Verdict.prices.Goals as goal

pub new-requires : goal.new-requires
new-requires c =
    let best = (rw (← c.deref-judged.ensures, c.in-Best.is) at c.self.invariant.shown).0 in
    ArePrices-best c.deref-judged.result.now.snapshot c.in-Best.assign.items c.in-Best.prices.items
    c.as_slice.result.now c.in-Best.total
    c.live.result.now best c.as_slice.ensures.value c.live.ensures
