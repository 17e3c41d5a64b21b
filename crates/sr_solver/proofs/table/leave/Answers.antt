use Rattle.std.proofs.Common.{◌≡◌, ◌+◌, ◌*◌, refl, ap, inl, inr, arith}
use Rattle.std.proofs.lemmas.Nat.{mul-add-lt}
use Rattle.sr_transport.specs.{consumers}
use Rattle.sr_solver.proofs.TableLemmas.{row_more, row_stays}
use Rattle.sr_solver.proofs.table.leave.Goals as goal
use Rattle.sr_solver.proofs.table.leave.Goals.{then-pairs-pair, else-pairs-pair}

pub loop-to-preserved : goal.loop-to-preserved
loop-to-preserved c =
    let p = c.args.problem.now in
    let pair : c.args.from * c.consumers.result + c.loop-to.to ≡ c.args.from * consumers p + c.loop-to.to =
    ap (λ n. c.args.from * n + c.loop-to.to) c.consumers.ensures.count in
    elim c.if-pairs-pair.branch [
      | then-pairs-pair w ↦
          rw w.pairs-is (
          row_more (consumers p) c.args.from c.loop-to.to _ _ c.args.pairs.now c.loop-to.pairs _
          c.loop-to.invariant c.requires.from (omega arith) c.requires.each_pair pair
          (record { low = refl; best = inl refl })
          )
      | else-pairs-pair w ↦
          rw w.pairs-is (
          row_stays (consumers p) c.args.from c.loop-to.to _ _ c.args.pairs.now c.loop-to.pairs c.loop-to.invariant
          pair (record { low = refl; best = inr (refl, w.if-pairs-pair.false) })
          )
    ]

pub loop-to-init : goal.loop-to-init
loop-to-init c = record {
  one_each = refl;
  row = λ b below. absurd (omega arith);
  others = λ q out. refl;
}

pub returns : goal.returns
returns c =
    let at_end : c.loop-to.to ≡ consumers c.args.problem.now = omega arith in
    rw at_end at c.loop-to.invariant

pub bounds-pairs-pair : goal.bounds-pairs-pair
bounds-pairs-pair c =
    let n = c.consumers.result in
    omega (
      arith,
      mul-add-lt c.args.from n c.loop-to.to n (omega arith) (omega arith),
      ap (λ k. k * k) c.consumers.ensures.count,
      c.requires.each_pair,
    )
