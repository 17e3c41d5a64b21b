use Rattle.std.proofs.Common.{◌<◌, length, get_or, ap, arith}
use Rattle.std.proofs.lemmas.List.{length_push}
use Rattle.std.proofs.lemmas.List.Elements.{All-push}
use Rattle.std.proofs.lemmas.Result.{IfOk-from_err}
use Rattle.sr_solver.proofs.sample.without.Goals as goal
use Rattle.sr_solver.proofs.sample.without.Goals.{then-unwrap_or+in_ok-push, else-unwrap_or}

pub returns-in_err-is_kept-clause-below : goal.returns-in_err-is_kept-clause-below
returns-in_err-is_kept-clause-below c = IfOk-from_err _ _ c.from_residual.ensures.0

pub returns-in_err-is_kept-clause-few : goal.returns-in_err-is_kept-clause-few
returns-in_err-is_kept-clause-few c = IfOk-from_err _ _ c.from_residual.ensures.0

pub loop-place-init : goal.loop-place-init
loop-place-init c = tt

pub loop-place-preserved : goal.loop-place-preserved
loop-place-preserved c = tt

pub loop-place-2-init : goal.loop-place-2-init
loop-place-2-init c = record {
  below = λ n all k d lt. absurd (omega (arith, lt, ap length c.new-kept.ensures.items));
  few = omega (arith, ap length c.new-kept.ensures.items);
}

pub bounds-entries-place : goal.bounds-entries-place
bounds-entries-place c = c.loop-place-2-test.true

pub returns-in_err-push-clause-below : goal.returns-in_err-push-clause-below
returns-in_err-push-clause-below c = IfOk-from_err _ _ c.from_residual-in_err-push.ensures.0

pub returns-in_err-push-clause-few : goal.returns-in_err-push-clause-few
returns-in_err-push-clause-few c = IfOk-from_err _ _ c.from_residual-in_err-push.ensures.0

pub loop-place-2-preserved : goal.loop-place-2-preserved
loop-place-2-preserved c =
    elim c.if-unwrap_or.branch [
      | then-unwrap_or+in_ok-push w ↦ record {
        below = λ n all. rw w.kept-is (rw w.in_ok-push.ensures.items (
            All-push (λ entry. entry < n) c.loop-place-2.kept.items _ (c.loop-place-2.invariant.below n all)
            (all c.loop-place-2.place 0 c.loop-place-2-test.true)
            ));
        few = rw w.kept-is (rw w.in_ok-push.ensures.items (
            omega (
              arith,
              length_push c.loop-place-2.kept.items (get_or c.args.entries.now c.loop-place-2.place 0),
              c.loop-place-2.invariant.few,
            )));
      }
      | else-unwrap_or w ↦ record {
        below = rw w.kept-is c.loop-place-2.invariant.below;
        few = rw w.kept-is (omega (arith, c.loop-place-2.invariant.few));
      }
    ]

pub returns-clause-below : goal.returns-clause-below
returns-clause-below c = c.loop-place-2.invariant.below

pub returns-clause-few : goal.returns-clause-few
returns-clause-few c = omega (arith, c.loop-place-2.invariant.few)
