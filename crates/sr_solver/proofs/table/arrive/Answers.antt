use Rattle.std.proofs.Common.{◌≡◌, ℕ, ◌+◌, ◌*◌, ◌<◌, Option, refl, sym, ap, ◌∙◌, arith}
use Rattle.std.specs.Prelude.{unwrap_or}
use Rattle.std.proofs.lemmas.Nat.{mul-add-lt}
use Rattle.sr_transport.proofs.PlainLimitLemmas.{cost_at_small, cost_small}
use Rattle.sr_transport.specs.{consumers}
use Rattle.sr_transport.specs.plain.Problem.{cost_at, cost_of}
use Rattle.sr_solver.proofs.TableLemmas.{row_more, row_stays, lowered_is, lowered_not}
use Rattle.sr_solver.proofs.table.arrive.Goals as goal
use Rattle.sr_solver.proofs.table.arrive.Goals.{then-is_some, else-is_some}

pub loop-next-preserved : goal.loop-next-preserved
loop-next-preserved c =
    let cost : Option ℕ → ℕ = λ o. unwrap_or o 0 in
    let same : cost_of c.args.problem.now c.args.entry c.args.to ≡ c.unwrap-here.result =
    ap cost (sym c.cost.ensures ∙ c.unwrap-here.ensures) in
    let below : c.loop-next.next < consumers c.args.problem.now =
    rw c.costs-there-items.ensures.each_consumer at c.loop-next-test.true in
    let there = c.costs-there-items.ensures.costs c.loop-next.next below in
    elim c.if-is_some.branch [
      | then-is_some w ↦
          let pair : c.args.to * w.consumers.result + c.loop-next.next ≡ c.args.to * consumers c.args.problem.now
          + c.loop-next.next =
          ap (λ n. c.args.to * n + c.loop-next.next) w.consumers.ensures.count in
          rw w.pairs-is (
          row_more (consumers c.args.problem.now) c.args.to c.loop-next.next _ _ c.args.pairs.now c.loop-next.pairs
          w.lowered-known.result
          c.loop-next.invariant c.requires.allowed.0 below c.requires.each_pair pair
          (lowered_is c.args.entry _ _ _ _ _ _ same (sym there) w.lowered-known.ensures)
          )
      | else-is_some w ↦
          rw w.pairs-is (
          row_stays (consumers c.args.problem.now) c.args.to c.loop-next.next _ _ c.args.pairs.now c.loop-next.pairs
          c.loop-next.invariant refl
          (lowered_not c.args.entry (cost_of c.args.problem.now c.args.entry c.args.to)
          (cost_at c.args.problem.now c.args.entry c.loop-next.next) _
          (rw there at (sym c.is_some.ensures ∙ w.if-is_some.false)))
          )
    ]

pub loop-next-init : goal.loop-next-init
loop-next-init c = record {
  one_each = refl;
  row = λ b below. absurd (omega arith);
  others = λ q out. refl;
}

pub unwrap-here-requires : goal.unwrap-here-requires
unwrap-here-requires c = rw c.cost.ensures c.requires.allowed.1

pub slice_copy_out-lowered : goal.slice_copy_out-lowered
slice_copy_out-lowered c =
    let n = c.consumers.result in
    omega (
      arith,
      mul-add-lt c.args.to n c.loop-next.next n (omega arith) (omega arith),
      ap (λ k. k * k) c.consumers.ensures.count,
      c.requires.each_pair,
    )

pub bounds-pairs-pair : goal.bounds-pairs-pair
bounds-pairs-pair c =
    let n = c.consumers.result in
    omega (
      arith,
      mul-add-lt c.args.to n c.loop-next.next n (omega arith) (omega arith),
      ap (λ k. k * k) c.consumers.ensures.count,
      c.requires.each_pair,
    )

pub lowered-known-requires-clause-here : goal.lowered-known-requires-clause-here
lowered-known-requires-clause-here c =
    let cost : Option ℕ → ℕ = λ o. unwrap_or o 0 in
    let same : cost_of c.args.problem.now c.args.entry c.args.to ≡ c.unwrap-here.result =
    ap cost (sym c.cost.ensures ∙ c.unwrap-here.ensures) in
    omega (arith, same, cost_small c.args.problem.now c.requires.limits c.args.entry c.args.to)

pub lowered-known-requires-clause-there : goal.lowered-known-requires-clause-there
lowered-known-requires-clause-there c =
    rw (c.costs-there-items.ensures.costs c.loop-next.next (omega (arith, c.costs-there-items.ensures.each_consumer))) (
    cost_at_small c.args.problem.now c.requires.limits c.args.entry c.loop-next.next
    )

pub returns : goal.returns
returns c =
    let at_end : c.loop-next.next ≡ consumers c.args.problem.now =
    omega (arith, c.costs-there-items.ensures.each_consumer) in
    rw at_end at c.loop-next.invariant
