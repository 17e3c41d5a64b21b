use Rattle.std.proofs.Common.{◌≡◌, ◌+◌, ◌*◌, refl, ap, arith}
use Rattle.sr_transport.specs.{consumers}
use Rattle.sr_solver.proofs.TableLemmas.{row_more}
use Rattle.sr_solver.proofs.table.blank.Goals as goal

pub loop-to-preserved : goal.loop-to-preserved
loop-to-preserved c =
    row_more (consumers c.args.problem.now) c.args.from c.loop-to.to _ _ c.args.pairs.now c.loop-to.pairs _
    c.loop-to.invariant c.requires.from (omega arith) c.requires.each_pair
    (ap (λ n. c.args.from * n + c.loop-to.to) c.consumers.ensures.count) c.none.ensures

pub loop-to-init : goal.loop-to-init
loop-to-init c = record {
  one_each = refl;
  row = λ b below. absurd (omega arith);
  others = λ q out. refl;
}

pub returns : goal.returns
returns c =
    let at_end : c.loop-to.to ≡ consumers c.args.problem.now = omega arith in
    rw at_end at c.loop-to.invariant
