use Rattle.std.proofs.Common.{◌∙◌, sym, arith}
use Rattle.sr_live.proofs.LookingLemmas.{rising-next}
use Rattle.sr_live.proofs.ranges.are_rising.Goals as goal

pub loop-at-preserved : goal.loop-at-preserved
loop-at-preserved c = (
  (omega arith),
  rising-next c.args.entries.now c.loop-at.at c.index-entries-at.result c.index-entries-at-in-loop-at.result
      c.loop-at.invariant.0 c.loop-at-test.true (sym c.is_before.ensures ∙ c.if-not-is_before.false)
      c.loop-at.invariant.1,
)
