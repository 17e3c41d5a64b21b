use Rattle.sr_plan.proofs.BestLemmas.{AreMoves-best}
use Rattle.sr_plan.proofs.verdict.Verdict.moves.Goals as goal

pub new-requires : goal.new-requires
new-requires c =
    let best = (rw (← c.deref-judged.ensures, c.in-Best.is) at c.self.invariant.shown).0 in
    let moves = AreMoves-best c.deref-judged.result.now.snapshot c.in-Best.assign.items c.as_slice.result.now c.in-Best.prices.items
    c.in-Best.total c.stranded.result.now c.live.result.now best c.as_slice.ensures.value
    c.stranded.ensures c.live.ensures in
    record { each = moves.each; consumers = moves.consumers }
