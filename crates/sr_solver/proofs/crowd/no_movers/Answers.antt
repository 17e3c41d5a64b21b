use Rattle.std.proofs.Common.{◌+◌, ◌∙◌, ap, length, None}
use Rattle.std.proofs.lemmas.List.{length_push}
use Rattle.sr_solver.proofs.CrowdLemmas.{none_more}
use Rattle.sr_solver.proofs.crowd.no_movers.Goals as goal

pub loop-consumer-preserved : goal.loop-consumer-preserved
loop-consumer-preserved c = record {
  each = ap length c.in_ok-push.ensures.items
      ∙ (length_push c.loop-consumer.movers.items None ∙ ap (λ n. n + 1) c.loop-consumer.invariant.each);
  none = none_more _ _ c.in_ok-push.ensures.items c.loop-consumer.invariant.none;
}
