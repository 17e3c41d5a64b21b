use Rattle.std.proofs.Common.{◌≡◌, ℕ, ◌/◌, ◌+◌, ◌-◌, ◌<◌, ◌≤◌, ◌∙◌, Option, sym, ap, inl, inr, slice_index, arith}
use Rattle.std.specs.Prelude.{unwrap_or}
use Rattle.sr_transport.specs.{consumers}
use Rattle.sr_transport.specs.plain.Problem.{cost_of}
use Rattle.sr_transport.proofs.PlainLimitLemmas.{cost_small}
use Rattle.sr_solver.specs.Groups.{low_row}
use Rattle.sr_solver.specs.Pairs.{pair_at}
use Rattle.sr_solver.proofs.GroupLemmas.{row_fits, group_below}
use Rattle.sr_solver.proofs.GapLemmas.{looked_all, looked_more}
use Rattle.sr_solver.proofs.groups.join_group_in_row.Goals as goal

pub lower-requires-clause-place : goal.lower-requires-clause-place
lower-requires-clause-place c =
    let p = c.args.problem.now in
    let group : c.args.row.number / 64 < c.args.groups.count =
    group_below p c.args.groups c.args.row.number c.requires.groups c.requires.entry in
    let fits =
    row_fits p c.args.groups c.args.to _ c.row_of-first.result c.loop-pair.lows c.requires.limits
    c.requires.groups (c.loop-pair.invariant.each_group ∙ c.requires.each_group) c.requires.allowed.0
    c.requires.wide (c.requires.row.consumer c.loop-pair.pair-index c.loop-pair-test.true) c.row_of-first.ensures in
    omega (arith, fits.within, group)

pub loop-pair-preserved : goal.loop-pair-preserved
loop-pair-preserved c =
    let p = c.args.problem.now in
    let pairs = c.args.row.pairs.now in
    let i : ℕ = c.args.row.number in
    let j : ℕ = c.loop-pair.pair-index in
    let group : ℕ = i / 64 in
    let cost : Option ℕ → ℕ = λ o. unwrap_or o 0 in
    let here : cost_of p i c.args.to ≡ c.unwrap-here.result = ap cost (sym c.cost.ensures ∙ c.unwrap-here.ensures) in
    let there : cost_of p i (pair_at pairs j).consumer ≡ (pair_at pairs j).cost =
    ap cost (c.requires.row.cost j c.loop-pair-test.true) in
    record {
      each_group = c.lower.ensures.length ∙ c.loop-pair.invariant.each_group;
      none_higher = λ q. omega (arith, c.lower.ensures.none_higher q, c.loop-pair.invariant.none_higher q);
      below = λ b lt allowed. elim (looked_more p i j b pairs c.requires.row c.loop-pair-test.true allowed lt) [
        | inl is ↦ rw is (
            let low : slice_index c.lower.new.lows (low_row (consumers p) c.args.groups c.args.to (pair_at pairs j).consumer
            + group) ≤ (pair_at pairs j).cost + 2199023255552 - c.unwrap-here.result =
            rw c.row_of-first.ensures at c.lower.ensures.lower in
            omega (arith, low, here, there, cost_small p c.requires.limits i c.args.to))
        | inr before ↦ omega (
          arith,
          c.lower.ensures.none_higher (low_row (consumers p) c.args.groups c.args.to b + group),
          c.loop-pair.invariant.below b before allowed,
        )
      ];
    }

pub returns : goal.returns
returns c =
    let p = c.args.problem.now in
    let i : ℕ = c.args.row.number in
    record {
      each_group = c.loop-pair.invariant.each_group;
      none_higher = c.loop-pair.invariant.none_higher;
      below = λ b g lt wide member allowed.
          let all = looked_all p i c.loop-pair.pair-index b c.args.row.pairs.now c.requires.row (omega arith) allowed in
          let is : g ≡ i / 64 = omega (arith, member.0, member.1) in
          rw is (c.loop-pair.invariant.below b all allowed);
    }
