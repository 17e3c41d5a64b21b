use Rattle.std.proofs.Common.{◌≡◌, ℕ, ◌+◌, ◌*◌, ◌<◌, Option, refl, sym, ap, ◌∙◌, arith}
use Rattle.std.specs.Prelude.{unwrap_or}
use Rattle.sr_transport.specs.{consumers}
use Rattle.sr_transport.specs.plain.Problem.{cost_of}
use Rattle.sr_solver.specs.Pairs.{pair_at}
use Rattle.sr_solver.proofs.TableLemmas.{row_more, lowered_is}
use Rattle.sr_solver.proofs.GapLemmas.{gap_before, gap_after, looked_next, lowered_skips}
use Rattle.sr_solver.proofs.table.arrive_in_row.Goals as goal

pub loop-pair-preserved : goal.loop-pair-preserved
loop-pair-preserved c =
    let p = c.args.problem.now in
    let pairs = c.args.row.pairs.now in
    let j : ℕ = c.loop-pair.pair-index in
    let within : (pair_at pairs j).consumer < consumers p = c.requires.row.consumer j c.loop-pair-test.true in
    let cost : Option ℕ → ℕ = λ o. unwrap_or o 0 in
    let same : cost_of p c.args.row.number c.args.to ≡ c.unwrap-here.result =
    ap cost (sym c.cost.ensures ∙ c.unwrap-here.ensures) in
    let place : c.args.to * c.consumers.result + (pair_at pairs j).consumer ≡ c.args.to * consumers p
    + (pair_at pairs j).consumer =
    ap (λ n. c.args.to * n + (pair_at pairs j).consumer) c.consumers.ensures.count in
    let skipped = lowered_skips p c.args.row.number c.args.to _ _ _ _ _
    (gap_before p c.args.row.number j pairs c.requires.row c.loop-pair-test.true) (omega arith) c.loop-pair.invariant in
    rw (looked_next pairs j) (
    row_more (consumers p) c.args.to _ _ _ _ _ _ skipped c.requires.allowed.0 within c.requires.each_pair place
    (lowered_is c.args.row.number _ _ _ _ _ _ same (c.requires.row.cost j c.loop-pair-test.true)
    c.lowered-known.ensures)
    )

pub loop-pair-init : goal.loop-pair-init
loop-pair-init c = record {
  one_each = refl;
  row = λ b below. absurd (omega arith);
  others = λ q out. refl;
}

pub unwrap-here-requires : goal.unwrap-here-requires
unwrap-here-requires c = rw c.cost.ensures c.requires.allowed.1

pub returns : goal.returns
returns c =
    let p = c.args.problem.now in
    lowered_skips p c.args.row.number c.args.to _ _ _ _ _
    (gap_after p c.args.row.number c.loop-pair.pair-index c.args.row.pairs.now c.requires.row (omega arith)) (omega arith)
    c.loop-pair.invariant
