use Rattle.std.proofs.Common.{◌≡◌, ℕ, ◌*◌, Option, sym, ap, ◌∙◌, inl, arith}
use Rattle.std.specs.Prelude.{unwrap_or}
use Rattle.sr_transport.specs.plain.Problem.{cost_of}
use Rattle.sr_solver.proofs.TableLemmas.{lowered_is, found_lowered}
use Rattle.sr_solver.proofs.GroupLemmas.{between_more, between_other, between_all}
use Rattle.sr_solver.proofs.groups.find_in_group.Goals as goal
use Rattle.sr_solver.proofs.groups.find_in_group.Goals.{then-assign-entry+else-not-may_take, else-assign-entry}

pub loop-entry-preserved : goal.loop-entry-preserved
loop-entry-preserved c =
    let p = c.args.problem.now in
    let i : ℕ = c.loop-entry.entry in
    let first : ℕ = c.args.group * 64 in
    let cost : Option ℕ → ℕ = λ o. unwrap_or o 0 in
    elim c.if-assign-entry.branch [
      | then-assign-entry+else-not-may_take w ↦
          let same : cost_of p i c.args.from ≡ w.unwrap-here.result =
          ap cost (sym w.cost.ensures ∙ w.unwrap-here.ensures) in
          record {
            from = omega (arith, c.loop-entry.invariant.from);
            upto = inl (omega (arith, c.loop-entry-test.true));
            known = rw w.found-is (between_more p c.args.assign.now c.args.from c.args.to first i c.loop-entry.found
                w.lowered-found.result c.requires.limits c.requires.to
                (omega (arith, c.loop-entry-test.true, c.end_of-end.ensures.few, c.entries.ensures))
                w.if-assign-entry.true c.loop-entry.invariant.from c.loop-entry.invariant.known
                (lowered_is i _ _ _ _ _ _ same (sym w.cost-there.ensures) w.lowered-found.ensures));
            found = rw w.found-is (found_lowered p i _ _ _ _
                (omega (arith, c.loop-entry-test.true, c.end_of-end.ensures.few, c.entries.ensures))
                w.lowered-found.ensures c.loop-entry.invariant.found);
          }
      | else-assign-entry w ↦ record {
        from = omega (arith, c.loop-entry.invariant.from);
        upto = inl (omega (arith, c.loop-entry-test.true));
        known = rw w.found-is (between_other p c.args.assign.now c.args.from c.args.to first i c.loop-entry.found
            w.if-assign-entry.false c.loop-entry.invariant.known);
        found = rw w.found-is c.loop-entry.invariant.found;
      }
    ]

pub returns-clause-known : goal.returns-clause-known
returns-clause-known c =
    between_all c.args.problem.now c.args.assign.now c.args.from c.args.to c.args.group c.end_of-end.result
    c.loop-entry.entry c.loop-entry.found c.end_of-end.ensures.within
    (rw c.entries.ensures at c.end_of-end.ensures.all) (omega (arith, c.loop-entry-test.false))
    c.loop-entry.invariant.upto c.loop-entry.invariant.known
