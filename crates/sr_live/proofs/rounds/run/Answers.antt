use Rattle.std.proofs.Common.{◌≡◌, inl, inr, subst}
use Rattle.std.proofs.Common.{arith}
use Rattle.std.proofs.lemmas.Result.{IfErr-weaker, IfOk-weaker}
use Rattle.sr_live.specs.declared.rounds.Ran.TheVariants.{Done, Impossible, Stale}
use Rattle.sr_live.specs.Rounds.{HasMade}
use Rattle.sr_live.proofs.RoundsLemmas.{changed-next, changed-none, made-at, run-changed, run-failed, run-made, run-stale}
use Rattle.sr_live.proofs.RoundsLemmas.{so-far-next, so-far-none, stale-next}
use Rattle.sr_live.proofs.rounds.run.Goals.{in-None, in-Some-Stale}
use Rattle.sr_live.proofs.rounds.run.Goals as goal

pub loop-tried-init : goal.loop-tried-init
loop-tried-init g c = record {
  so_far = so-far-none c.args.policy.now c.args.asked.now c.args.terms _ _;
  stale = tt;
  changed = changed-none c.args.policy.now c.args.asked.now c.args.terms _ _;
}

pub returns-in_err-round-clause-err : goal.returns-in_err-round-clause-err
returns-in_err-round-clause-err g c =
    run-failed c.args.policy.now c.args.asked.now c.args.terms _ _ _ _ _ _ c.loop-tried._tried
    c.from_residual.result _ c.from_residual.ensures.1 c.loop-tried-test.true c.loop-tried.invariant.so_far
    c.in_err-round.ensures.err

pub returns-in-Some-Impossible-clause-ok : goal.returns-in-Some-Impossible-clause-ok
returns-in-Some-Impossible-clause-ok g c =
    let now = c.in_ok-round.ensures.ok in
    run-made c.args.policy.now c.args.asked.now c.args.terms _ _ _ _ _ _ c.loop-tried._tried
    (Impossible c.in-Some-Impossible.planned) now.0 c.loop-tried.invariant.so_far now.1
    (made-at c.args.policy.now c.args.asked.now c.args.terms now.0 _ _ _ c.in-Some-Impossible.is
    c.in-Some-Impossible.field-0-is now.2)
    (omega (arith, c.loop-tried-test.true))

pub returns-in-Some-Done-clause-ok : goal.returns-in-Some-Done-clause-ok
returns-in-Some-Done-clause-ok g c =
    let now = c.in_ok-round.ensures.ok in
    run-made c.args.policy.now c.args.asked.now c.args.terms _ _ _ _ _ _ c.loop-tried._tried
    (Done c.in-Some-Done.planned c.in-Some-Done.claimed c.in-Some-Done.gap) now.0 c.loop-tried.invariant.so_far now.1
    (made-at c.args.policy.now c.args.asked.now c.args.terms now.0 _ _ _ c.in-Some-Done.is
    c.in-Some-Done.field-0-is now.2)
    (omega (arith, c.loop-tried-test.true))

pub loop-tried-preserved : goal.loop-tried-preserved
loop-tried-preserved g c =
    let now = c.in_ok-round.ensures.ok in
    let before = c.loop-tried.invariant.so_far in
    elim c.match-branch-2.branch [
      | in-None w ↦
          let made = subst (HasMade c.args.policy.now c.args.asked.now c.args.terms now.0) w.in-None.is now.2 in
          record {
            so_far = so-far-next c.args.policy.now c.args.asked.now c.args.terms _ _ _ _ _ _ c.loop-tried._tried now.0
                before now.1 (inl made);
            stale = rw w.ran-is tt;
            changed = rw w.ran-is (changed-next c.args.policy.now c.args.asked.now c.args.terms _ _ _ _ _ _
                c.loop-tried._tried now.0 before now.1 made);
          }
      | in-Some-Stale w ↦
          let one = w.in-Some-Stale in
          let made = made-at c.args.policy.now c.args.asked.now c.args.terms now.0 _ _ (Stale one.what one.of) one.is
          one.field-0-is now.2 in
          record {
            so_far = so-far-next c.args.policy.now c.args.asked.now c.args.terms _ _ _ _ _ _ c.loop-tried._tried now.0
                before now.1 (inr (one.what, one.of, made));
            stale = rw w.ran-is (stale-next c.args.policy.now c.args.asked.now c.args.terms _ _ _ _ _ _
                c.loop-tried._tried one.what one.of now.0 before now.1 made);
            changed = rw w.ran-is tt;
          }
    ]

pub returns-clause-ok : goal.returns-clause-ok
returns-clause-ok g c =
    let all : c.loop-tried._tried ≡ c.args.terms.tries = omega arith in
    IfOk-weaker c.loop-tried.ran _ _
    (run-stale c.args.policy.now c.args.asked.now c.args.terms _ _ _ _ c.loop-tried._tried all)
    c.loop-tried.invariant.stale

pub returns-clause-err : goal.returns-clause-err
returns-clause-err g c =
    let all : c.loop-tried._tried ≡ c.args.terms.tries = omega arith in
    IfErr-weaker c.loop-tried.ran _ _
    (run-changed c.args.policy.now c.args.asked.now c.args.terms _ _ _ _ c.loop-tried._tried all)
    c.loop-tried.invariant.changed
