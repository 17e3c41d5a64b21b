use Rattle.std.proofs.Common.{◌+◌, ◌<◌, length, ap, ◌∙◌, arith}
use Rattle.std.proofs.lemmas.List.{length_push}
use Rattle.std.proofs.lemmas.List.Elements.{All-push}
use Rattle.std.proofs.lemmas.Result.{IfOk-from_err}
use Rattle.sr_solver.proofs.sample.sample.Goals as goal

pub returns-in_err-sample-clause-below : goal.returns-in_err-sample-clause-below
returns-in_err-sample-clause-below c = IfOk-from_err _ _ c.from_residual.ensures.0

pub returns-in_err-sample-clause-few : goal.returns-in_err-sample-clause-few
returns-in_err-sample-clause-few c = IfOk-from_err _ _ c.from_residual.ensures.0

pub loop-block-init : goal.loop-block-init
loop-block-init c = record {
  below = λ n all k d lt. absurd (omega (arith, lt, ap length c.in_ok-sample.ensures.items));
  few = ap length c.in_ok-sample.ensures.items;
}

pub place_in-requires : goal.place_in-requires
place_in-requires c = omega arith

pub offset_bounds-order-place_in : goal.offset_bounds-order-place_in
offset_bounds-order-place_in c = omega arith

pub bounds-order-place_in : goal.bounds-order-place_in
bounds-order-place_in c = omega arith

pub returns-in_err-push-clause-below : goal.returns-in_err-push-clause-below
returns-in_err-push-clause-below c = IfOk-from_err _ _ c.from_residual-in_err-push.ensures.0

pub returns-in_err-push-clause-few : goal.returns-in_err-push-clause-few
returns-in_err-push-clause-few c = IfOk-from_err _ _ c.from_residual-in_err-push.ensures.0

pub loop-block-preserved : goal.loop-block-preserved
loop-block-preserved c = record {
  below = λ n all.
      rw c.in_ok-push.ensures.items (
      All-push (λ entry. entry < n) c.loop-block.sample.items _ (c.loop-block.invariant.below n all)
      (all c.place_in.result 0 (omega arith))
      );
  few = ap length c.in_ok-push.ensures.items
      ∙ (length_push c.loop-block.sample.items _ ∙ ap (λ n. n + 1) c.loop-block.invariant.few);
}

pub returns-clause-below : goal.returns-clause-below
returns-clause-below c = c.loop-block.invariant.below

pub returns-clause-few : goal.returns-clause-few
returns-clause-few c = omega (arith, c.loop-block.invariant.few)
