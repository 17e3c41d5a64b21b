use Rattle.std.proofs.Common.{ℕ, length, ap, arith}
use Rattle.sr_solver.specs.ByConsumer.{IsStepOf}
use Rattle.sr_solver.proofs.ByConsumerLemmas.{push_each, push_length}
use Rattle.sr_solver.proofs.tiered.steps.Goals as goal

pub loop-consumer-init : goal.loop-consumer-init
loop-consumer-init c = record {
  one_each = ap length c.in_ok-steps.ensures.items;
  each = λ k lt. absurd (omega (arith, lt));
}

pub loop-consumer-preserved : goal.loop-consumer-preserved
loop-consumer-preserved c =
    let p = c.args.problem.now in
    let n : ℕ = c.loop-consumer.consumer in
    let is = c.loop-consumer.invariant in
    record {
      one_each = rw c.in_ok-push.ensures.items (push_length c.loop-consumer.steps.items _ n is.one_each);
      each = rw c.in_ok-push.ensures.items (
          push_each (IsStepOf p.tiers) (record { first = 0; fee = 0 }) c.loop-consumer.steps.items _ n is.one_each
          is.each c.step_of.ensures
          );
    }
