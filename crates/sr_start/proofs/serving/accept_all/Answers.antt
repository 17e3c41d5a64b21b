use Rattle.sr_start.proofs.SeatLemmas.{all_came, one_fits, one_less, one_more}
use Rattle.sr_start.proofs.serving.accept_all.Goals as goal

pub loop-count-preserved : goal.loop-count-preserved
loop-count-preserved g c = one_more _ _ c.loop-count-test.true

pub loop-count-smaller : goal.loop-count-smaller
loop-count-smaller g c = one_less _ _ c.loop-count-test.true

pub overflow_add-count : goal.overflow_add-count
overflow_add-count g c = one_fits _ _ c.ranges.accepts c.loop-count-test.true

pub returns : goal.returns
returns g c = record { ok = all_came _ _ c.loop-count-test.false c.loop-count.invariant }
