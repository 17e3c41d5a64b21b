use Rattle.sr_live.proofs.LookingLemmas.{AreTold}
use Rattle.sr_live.proofs.ranges.push_told.Given as goal

abbrev pub invariant-loop-at : goal.invariant-loop-at
invariant-loop-at l =
    AreTold l.range.first l.range.last l.range.count l.entries l.listed l.at l.fn.found.rows.items l.found.rows.items
    l.fn.found.wanted l.found.wanted
