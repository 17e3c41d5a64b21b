use Rattle.std.proofs.Common.{◌≡◌, ℕ, ◌<◌, ◌≤◌, List, length, get_or, refl, sym, ◌∙◌, inl, inr, arith}
use Rattle.std.proofs.Math.ListN.{set}
use Rattle.std.proofs.lemmas.List.{get_or_default, get_or-set_same}
use Rattle.sr_transport.specs.{consumers}
use Rattle.sr_solver.specs.Labels.{no_label, label_at, IsFarOrReached}
use Rattle.sr_solver.specs.Limits.{greatest_way}
use Rattle.sr_solver.specs.Cutoff.{length_of}
use Rattle.sr_solver.specs.Exits.{IsMoved}
use Rattle.sr_solver.specs.Offers.{IsAsked}
use Rattle.sr_solver.proofs.CutoffLemmas.{beyond_cut, IsGapAt, gap_read, gap_small}
use Rattle.sr_solver.proofs.ExitLemmas.{IsLeaving, leaving}
use Rattle.sr_solver.proofs.OfferLemmas.{asked_left, asked_moved, asked_small, cutoff_asked, dist_small, far_or_reached}
use Rattle.sr_solver.proofs.OfferLemmas.{stands_least}
use Rattle.sr_solver.proofs.SetLemmas.{waiting_moved, waiting_later}
use Rattle.sr_solver.proofs.search.ask.Goals as goal

pub mover-requires-clause-label : goal.mover-requires-clause-label
mover-requires-clause-label c =
    let p = c.args.seeker.now.problem.now.columns in
    let labels = c.args.front.now.labels.items in
    let lt : c.args.other < length labels = omega (arith, c.requires.other, c.requires.front.search.one_each) in
    let read : c.index-label.result.now ≡ label_at labels c.args.other =
    c.index-label.ensures ∙ get_or_default _ _ _ _ lt in
    let marked : IsFarOrReached (label_at labels c.args.other) =
    far_or_reached p c.args.seeker.now.entry c.args.seeker.now.placement.now.assign.items c.args.seeker.now.placement.now.prices.items
    (length_of c.args.front.now.cutoff) labels c.args.exit.consumer 0 c.requires.seeker.standing.placed (omega (arith, c.requires.seeker.entry))
    c.requires.front.search c.args.other c.requires.other in
    rw read (elim marked [ inl far ↦ omega (arith, far.1) | inr near ↦ omega (arith, near.1) ])

pub returns-in_default-clause-asked : goal.returns-in_default-clause-asked
returns-in_default-clause-asked c =
    let p = c.args.seeker.now.problem.now.columns in
    let xs : List ℕ = c.args.seeker.now.placement.now.assign.items in
    let prices : List ℕ = c.args.seeker.now.placement.now.prices.items in
    let labels = c.args.front.now.labels.items in
    let le : c.args.seeker.now.entry ≤ p.entries = omega (arith, c.requires.seeker.entry) in
    let lt : c.args.other < length labels = omega (arith, c.requires.other, c.requires.front.search.one_each) in
    let read : c.index-label.result.now ≡ label_at labels c.args.other =
    c.index-label.ensures ∙ get_or_default _ _ _ _ lt in
    let near : (label_at labels c.args.exit.consumer).dist ≤ greatest_way =
    dist_small p c.args.seeker.now.entry xs prices (length_of c.args.front.now.cutoff) labels c.args.exit.consumer 0
    c.requires.seeker.standing.placed le c.requires.front.search c.args.exit.consumer c.requires.exit.consumer c.requires.exit.closed in
    asked_left p c.args.seeker.now.entry xs prices c.args.exit.consumer c.args.other (length_of c.args.front.now.cutoff) labels c.args.exit
    c.requires.seeker.standing.placed le c.requires.other c.requires.exit.leaves (omega (arith, near, c.requires.exit.leaves.dist))
    (far_or_reached p c.args.seeker.now.entry xs prices (length_of c.args.front.now.cutoff) labels c.args.exit.consumer 0
    c.requires.seeker.standing.placed le c.requires.front.search c.args.other c.requires.other)
    (rw read at c.in_default.ensures.none)

pub moved-label-requires-clause-above : goal.moved-label-requires-clause-above
moved-label-requires-clause-above c =
    let p = c.args.seeker.now.problem.now.columns in
    let xs : List ℕ = c.args.seeker.now.placement.now.assign.items in
    let prices : List ℕ = c.args.seeker.now.placement.now.prices.items in
    let leaves : IsLeaving p c.args.seeker.now.entry xs prices c.args.exit.consumer c.args.other c.in-Some.known =
    leaving p c.args.seeker.now.entry xs prices c.args.exit.consumer c.args.other c.in-Some.known c.in-Some.ensures.some.exact
    c.in-Some.ensures.some.entry
    (λ i at. stands_least p c.args.seeker.now.entry xs prices prices c.args.exit.consumer i c.requires.seeker.standing.placed
    c.requires.exit.consumer refl at) in
    rw c.as_slice-prices.ensures.value (omega (arith, leaves.above, c.requires.exit.leaves.base))

pub cut-front-requires-clause-gap : goal.cut-front-requires-clause-gap
cut-front-requires-clause-gap c =
    let p = c.args.seeker.now.problem.now.columns in
    let at : IsGapAt p c.args.seeker.now.problem.now.steps.now c.args.seeker.now.placement.now.assign.items c.args.seeker.now.placement.now.prices.items
    c.args.other c.gap-gap.result =
    gap_read p c.args.seeker.now.problem.now.steps.now c.args.seeker.now.placement.now.assign.items c.args.seeker.now.placement.now.prices.items
    c.args.seeker.now.placement.now.loads.items c.as_slice-loads.result.now c.as_slice-prices.result.now c.args.other
    c.gap-gap.result c.requires.seeker.standing.are_steps c.requires.seeker.standing.loads c.as_slice-loads.ensures.value
    c.as_slice-prices.ensures.value c.requires.other c.gap-gap.ensures.some c.gap-gap.ensures.none in
    gap_small p c.args.seeker.now.problem.now.steps.now c.args.seeker.now.placement.now.assign.items c.args.seeker.now.placement.now.prices.items
    c.args.other c.gap-gap.result at

pub cut-front-requires-clause-label : goal.cut-front-requires-clause-label
cut-front-requires-clause-label c =
    let p = c.args.seeker.now.problem.now.columns in
    let xs : List ℕ = c.args.seeker.now.placement.now.assign.items in
    let prices : List ℕ = c.args.seeker.now.placement.now.prices.items in
    let labels = c.args.front.now.labels.items in
    let le : c.args.seeker.now.entry ≤ p.entries = omega (arith, c.requires.seeker.entry) in
    let lt : c.args.other < length labels = omega (arith, c.requires.other, c.requires.front.search.one_each) in
    let ltt : c.args.exit.consumer < length labels = omega (arith, c.requires.exit.consumer, c.requires.front.search.one_each) in
    let read : c.index-label.result.now ≡ label_at labels c.args.other =
    c.index-label.ensures ∙ get_or_default _ _ _ _ lt in
    let from : c.index.result.now ≡ label_at labels c.args.exit.consumer =
    c.index.ensures ∙ get_or_default _ _ _ _ ltt in
    let moved : IsMoved c.args.exit c.in-Some.known (get_or prices c.args.other 0)
    (label_at labels c.args.exit.consumer).hops (label_at labels c.args.other).guess c.moved-label.result =
    rw (c.as_slice-prices.ensures.value, from, read) at c.moved-label.ensures in
    let asked : IsAsked p c.args.seeker.now.entry xs prices (length_of c.args.front.now.cutoff) c.args.exit.consumer c.args.other labels
    (set labels c.args.other c.moved-label.result) =
    asked_moved p c.args.seeker.now.entry xs prices c.args.exit.consumer c.args.other (length_of c.args.front.now.cutoff) labels
    c.moved-label.result c.args.exit c.in-Some.known c.requires.seeker.standing.placed le c.requires.exit.consumer lt c.requires.exit.leaves
    c.in-Some.ensures.some.exact c.in-Some.ensures.some.entry (rw read at c.in-Some.ensures.some.nearer) moved in
    λ up. omega (
      arith,
      rw (get_or-set_same labels c.args.other c.moved-label.result no_label lt) at (
          asked_small p c.args.seeker.now.entry xs prices labels (set labels c.args.other c.moved-label.result) c.args.exit.consumer
          c.args.other (length_of c.args.front.now.cutoff) c.requires.seeker.standing.placed le c.requires.exit.consumer c.requires.other
          c.requires.front.search c.requires.exit.closed c.requires.after asked
          (rw (get_or-set_same labels c.args.other c.moved-label.result no_label lt) up)
          ),
    )

pub returns-clause-asked : goal.returns-clause-asked
returns-clause-asked c =
    let p = c.args.seeker.now.problem.now.columns in
    let xs : List ℕ = c.args.seeker.now.placement.now.assign.items in
    let prices : List ℕ = c.args.seeker.now.placement.now.prices.items in
    let labels = c.args.front.now.labels.items in
    let le : c.args.seeker.now.entry ≤ p.entries = omega (arith, c.requires.seeker.entry) in
    let lt : c.args.other < length labels = omega (arith, c.requires.other, c.requires.front.search.one_each) in
    let ltt : c.args.exit.consumer < length labels = omega (arith, c.requires.exit.consumer, c.requires.front.search.one_each) in
    let read : c.index-label.result.now ≡ label_at labels c.args.other =
    c.index-label.ensures ∙ get_or_default _ _ _ _ lt in
    let from : c.index.result.now ≡ label_at labels c.args.exit.consumer =
    c.index.ensures ∙ get_or_default _ _ _ _ ltt in
    let moved : IsMoved c.args.exit c.in-Some.known (get_or prices c.args.other 0)
    (label_at labels c.args.exit.consumer).hops (label_at labels c.args.other).guess c.moved-label.result =
    rw (c.as_slice-prices.ensures.value, from, read) at c.moved-label.ensures in
    asked_moved p c.args.seeker.now.entry xs prices c.args.exit.consumer c.args.other (length_of c.args.front.now.cutoff) labels
    c.moved-label.result c.args.exit c.in-Some.known c.requires.seeker.standing.placed le c.requires.exit.consumer lt c.requires.exit.leaves
    c.in-Some.ensures.some.exact c.in-Some.ensures.some.entry (rw read at c.in-Some.ensures.some.nearer) moved

pub returns-clause-front : goal.returns-clause-front
returns-clause-front c =
    let p = c.args.seeker.now.problem.now.columns in
    let xs : List ℕ = c.args.seeker.now.placement.now.assign.items in
    let prices : List ℕ = c.args.seeker.now.placement.now.prices.items in
    let labels = c.args.front.now.labels.items in
    let lt : c.args.other < length labels = omega (arith, c.requires.other, c.requires.front.search.one_each) in
    let at : IsGapAt p c.args.seeker.now.problem.now.steps.now xs prices c.args.other c.gap-gap.result =
    gap_read p c.args.seeker.now.problem.now.steps.now xs prices c.args.seeker.now.placement.now.loads.items c.as_slice-loads.result.now
    c.as_slice-prices.result.now c.args.other c.gap-gap.result c.requires.seeker.standing.are_steps c.requires.seeker.standing.loads
    c.as_slice-loads.ensures.value c.as_slice-prices.ensures.value c.requires.other c.gap-gap.ensures.some
    c.gap-gap.ensures.none in
    let here : label_at (set labels c.args.other c.moved-label.result) c.args.other ≡ c.moved-label.result =
    get_or-set_same labels c.args.other c.moved-label.result no_label lt in
    let later = beyond_cut c.args.other _ c.gap-gap.result c.args.front.now.cutoff c.cut-front.result c.cut-front.ensures in
    record {
      cutoff = cutoff_asked p c.args.seeker.now.problem.now.steps.now c.args.seeker.now.entry xs prices labels
          (set labels c.args.other c.moved-label.result) c.args.exit.consumer c.args.other c.gap-gap.result c.args.front.now.cutoff
          c.cut-front.result c.requires.seeker.standing.placed (omega (arith, c.requires.seeker.entry)) c.requires.exit.consumer c.requires.other
          c.requires.front.search c.requires.exit.closed c.requires.after (returns-clause-asked c) at (rw here c.cut-front.ensures) c.requires.front.cutoff;
      later = later;
      waiting =
          waiting_later (consumers c.args.seeker.now.problem.now.columns)
          (set c.args.front.now.labels.items c.args.other c.moved-label.result) (length_of c.args.front.now.cutoff)
          (length_of c.cut-front.result) c.with-front.result later (
          waiting_moved (consumers c.args.seeker.now.problem.now.columns) (length_of c.args.front.now.cutoff) c.args.front.now.labels.items c.args.front.now.waiting
          c.with-front.result c.args.other c.moved-label.result c.requires.other
          (sym c.requires.front.search.one_each) c.moved-label.ensures.still_open
          c.with-front.ensures c.requires.front.waiting
          );
    }
