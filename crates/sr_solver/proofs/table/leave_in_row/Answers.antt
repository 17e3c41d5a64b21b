use Rattle.std.proofs.Common.{◌≡◌, ℕ, ◌+◌, ◌*◌, ◌<◌, refl, ap, inl, inr, arith}
use Rattle.sr_transport.specs.{consumers}
use Rattle.sr_solver.specs.Pairs.{pair_at}
use Rattle.sr_solver.proofs.TableLemmas.{row_more, row_stays}
use Rattle.sr_solver.proofs.GapLemmas.{gap_before, gap_after, looked_next, without_skips}
use Rattle.sr_solver.proofs.table.leave_in_row.Goals as goal
use Rattle.sr_solver.proofs.table.leave_in_row.Goals.{then-pairs-place, else-pairs-place}

pub loop-pair-preserved : goal.loop-pair-preserved
loop-pair-preserved c =
    let p = c.args.problem.now in
    let pairs = c.args.row.pairs.now in
    let j : ℕ = c.loop-pair.pair-index in
    let within : (pair_at pairs j).consumer < consumers p = c.requires.row.consumer j c.loop-pair-test.true in
    let place : c.args.from * c.consumers.result + (pair_at pairs j).consumer ≡ c.args.from * consumers p
    + (pair_at pairs j).consumer =
    ap (λ n. c.args.from * n + (pair_at pairs j).consumer) c.consumers.ensures.count in
    let skipped = without_skips p c.args.row.number c.args.from _ _ _ _
    (gap_before p c.args.row.number j pairs c.requires.row c.loop-pair-test.true) (omega arith) c.requires.best
    c.loop-pair.invariant in
    rw (looked_next pairs j) (elim c.if-pairs-place.branch [
      | then-pairs-place w ↦
          rw w.pairs-is (
          row_more (consumers p) c.args.from _ _ _ _ _ _ skipped c.requires.from within c.requires.each_pair place
          (record { low = refl; best = inl refl })
          )
      | else-pairs-place w ↦
          rw w.pairs-is (
          row_stays (consumers p) c.args.from _ _ _ _ _ skipped place
          (record { low = refl; best = inr (refl, w.if-pairs-place.false) })
          )
    ])

pub loop-pair-init : goal.loop-pair-init
loop-pair-init c = record {
  one_each = refl;
  row = λ b below. absurd (omega arith);
  others = λ q out. refl;
}

pub returns : goal.returns
returns c =
    let p = c.args.problem.now in
    without_skips p c.args.row.number c.args.from _ _ _ _
    (gap_after p c.args.row.number c.loop-pair.pair-index c.args.row.pairs.now c.requires.row (omega arith)) (omega arith)
    c.requires.best c.loop-pair.invariant
