use Rattle.std.proofs.Common.{ℕ, ◌<◌, List, length, get_or, None, ap, ◌∙◌, arith}
use Rattle.std.proofs.Math.ListN.{length-set}
use Rattle.std.proofs.lemmas.List.{get_or-set_other}
use Rattle.sr_transport.specs.{consumers}
use Rattle.sr_transport.specs.plain.Problem.{cost_at}
use Rattle.sr_solver.specs.declared.label.Label.{Label}
use Rattle.sr_solver.specs.Labels.{no_label, label_at, IsFirstLabel}
use Rattle.sr_solver.specs.Cutoff.{IsCutoff}
use Rattle.sr_solver.specs.Pairs.{pair_at}
use Rattle.sr_solver.proofs.CutoffLemmas.{IsGapAt, gap_read}
use Rattle.sr_solver.proofs.GapLemmas.{looked_at, looked_next, IsGap, gap_before, gap_after}
use Rattle.sr_solver.proofs.SearchLemmas.{first_skips, cutoff_skips, offered_more, cutoff_more}
use Rattle.sr_solver.proofs.OfferLemmas.{price_small}
use Rattle.sr_solver.proofs.SetLemmas.{waiting_more, waiting_skips}
use Rattle.sr_solver.proofs.search.start_in_row.Goals as goal

pub loop-pair-preserved : goal.loop-pair-preserved
loop-pair-preserved c =
    let p = c.args.problem.now.columns in
    let k : ℕ = c.args.row.number in
    let xs : List ℕ = c.args.placement.now.assign.items in
    let prices : List ℕ = c.args.placement.now.prices.items in
    let pairs = c.args.row.pairs.now in
    let j : ℕ = c.loop-pair.pair-index in
    let n : ℕ = (pair_at pairs j).consumer in
    let labels = c.loop-pair.front.labels.items in
    let lt : n < consumers p = c.requires.row.consumer j c.loop-pair-test.true in
    let ltl : n < length labels = omega (arith, lt, c.loop-pair.invariant.every) in
    let gap : IsGap p k (looked_at pairs j) n = gap_before p k j pairs c.requires.row c.loop-pair-test.true in
    let placed = c.requires.standing.placed in
    let each : (x : ℕ) → x < n → IsFirstLabel (cost_at p k x) (get_or prices x 0) k (label_at labels x) =
    first_skips p k (looked_at pairs j) n prices labels (omega (arith, lt)) gap c.loop-pair.invariant.each
    c.loop-pair.invariant.none in
    let cutoff : IsCutoff p c.args.problem.now.steps.now xs prices labels n c.loop-pair.cutoff =
    cutoff_skips p c.args.problem.now.steps.now xs prices labels (looked_at pairs j) n c.loop-pair.cutoff gap.forward
    (λ x from below. c.loop-pair.invariant.none x from (omega (arith, below, lt))) c.loop-pair.invariant.cutoff in
    let first : IsFirstLabel (cost_at p k n) (get_or prices n 0) k c.first_label-label.result =
    rw (c.requires.row.cost j c.loop-pair-test.true) (rw c.as_slice-prices.ensures.value at c.first_label-label.ensures) in
    let at : IsGapAt p c.args.problem.now.steps.now xs prices n c.gap-gap.result =
    gap_read p c.args.problem.now.steps.now xs prices c.args.placement.now.loads.items c.as_slice-loads.result.now
    c.as_slice-prices.result.now n c.gap-gap.result c.requires.standing.are_steps c.requires.standing.loads
    c.as_slice-loads.ensures.value c.as_slice-prices.ensures.value lt c.gap-gap.ensures.some c.gap-gap.ensures.none in
    rw (looked_next pairs j) (
    record {
      every = length-set labels n c.first_label-label.result ∙ c.loop-pair.invariant.every;
      each = offered_more p k n prices labels c.first_label-label.result ltl each first;
      none = λ x from below.
          rw (get_or-set_other labels n x c.first_label-label.result no_label (λ e. omega (arith, from, e))) (
          c.loop-pair.invariant.none x (omega (arith, from, gap.forward)) below
          );
      waiting = waiting_more n None labels c.loop-pair.front.waiting c.with-front.result c.first_label-label.result ltl
          (ap (λ (l : Label). l.closed) c.first_label-label.ensures) c.with-front.ensures
          (waiting_skips (looked_at pairs j) n None labels c.loop-pair.front.waiting gap.forward
          (λ x from below. c.loop-pair.invariant.none x from (omega (arith, below, lt))) c.loop-pair.invariant.waiting);
      cutoff = cutoff_more p c.args.problem.now.steps.now k n xs prices labels c.first_label-label.result c.gap-gap.result
          c.loop-pair.cutoff c.cut-cutoff.result placed.limits ltl lt
          (price_small p k xs prices placed (omega (arith, c.requires.entry)) n lt) each first at c.cut-cutoff.ensures
          cutoff;
    }
    )

pub returns-clause-started : goal.returns-clause-started
returns-clause-started c = record {
  one_each = c.loop-pair.invariant.every;
  each = first_skips c.args.problem.now.columns c.args.row.number
      (looked_at c.args.row.pairs.now c.loop-pair.pair-index) (consumers c.args.problem.now.columns)
      c.args.placement.now.prices.items c.loop-pair.front.labels.items (omega arith)
      (gap_after c.args.problem.now.columns c.args.row.number c.loop-pair.pair-index c.args.row.pairs.now c.requires.row
      (omega arith)) c.loop-pair.invariant.each c.loop-pair.invariant.none;
}
