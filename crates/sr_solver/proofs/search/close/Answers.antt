use Rattle.std.proofs.Common.{◌≡◌, ℕ, ◌+◌, ◌<◌, ◌≤◌, ◌⊎◌, List, length, get_or, true, refl, ap, ◌∙◌, arith}
use Rattle.std.proofs.Math.ListN.{set}
use Rattle.std.proofs.lemmas.List.{get_or_default, get_or-set_same}
use Rattle.sr_transport.specs.{consumers}
use Rattle.sr_solver.specs.declared.label.Label.{Label}
use Rattle.sr_solver.specs.Labels.{no_label, label_at, AreFarOrReached}
use Rattle.sr_solver.specs.Limits.{greatest_way}
use Rattle.sr_solver.specs.Cutoff.{length_of}
use Rattle.sr_solver.specs.Offers.{IsClosed, IsAsked, IsGuessing}
use Rattle.sr_solver.proofs.LabelLemmas.{IsSameWay}
use Rattle.sr_solver.proofs.CloseLemmas.{closed_start, cutoff_closing, closed_round, search_none}
use Rattle.sr_solver.proofs.OfferLemmas.{offered_stays, closed_passed, closed_may, closed_offer, closed_cut, way_small}
use Rattle.sr_solver.proofs.OfferLemmas.{far_or_reached, cutoff_no_nearer, read_no_nearer, comparable, dist_small}
use Rattle.sr_solver.proofs.SetLemmas.{waiting_closing}
use Rattle.sr_solver.proofs.search.close.Goals as goal

pub ask_end-requires-clause-front : goal.ask_end-requires-clause-front
ask_end-requires-clause-front c =
    let p = c.args.seeker.now.problem.now.columns in
    let old : List Label = c.args.front.now.labels.items in
    let label : Label = record {
      hops = c.index-label.result.now.hops;
      dist = c.index-label.result.now.dist;
      mover = c.index-label.result.now.mover;
      closed = true;
      guess = c.index-label.result.now.guess;
    } in
    let within : c.args.near < length old = omega (arith, c.requires.nearest.consumer, c.requires.front.search.one_each) in
    let read : c.index-label.result.now ≡ label_at old c.args.near =
    c.index-label.ensures ∙ get_or_default _ _ _ _ within in
    let same : IsSameWay (label_at old c.args.near) label =
    record {
      hops = ap (λ (l : Label). l.hops) read;
      dist = ap (λ (l : Label). l.dist) read;
      mover = ap (λ (l : Label). l.mover) read;
    } in
    record {
      search = rw c.exit_of-exit.ensures.consumer (
          (closed_start p c.args.seeker.now.entry c.args.seeker.now.placement.now.assign.items
          c.args.seeker.now.placement.now.prices.items _ old c.args.near label
          c.requires.front.search c.requires.nearest same (ap (λ (l : Label). l.guess) read) refl).search
          );
      cutoff = cutoff_closing p c.args.seeker.now.problem.now.steps.now c.args.seeker.now.placement.now.assign.items
          c.args.seeker.now.placement.now.prices.items old
          c.args.near label c.args.front.now.cutoff within c.requires.nearest.not_closed same (ap (λ (l : Label). l.guess) read) refl
          c.requires.nearer
          c.requires.front.cutoff;
      waiting = waiting_closing (consumers p) (length_of c.args.front.now.cutoff) old c.args.front.now.waiting
          c.without-front.result c.args.near label within refl c.without-front.ensures c.requires.front.waiting;
    }

pub exit_of-exit-requires-2-clause-dist : goal.exit_of-exit-requires-2-clause-dist
exit_of-exit-requires-2-clause-dist c =
    let p = c.args.seeker.now.problem.now.columns in
    let old : List Label = c.args.front.now.labels.items in
    let label : Label = record {
      hops = c.index-label.result.now.hops;
      dist = c.index-label.result.now.dist;
      mover = c.index-label.result.now.mover;
      closed = true;
      guess = c.index-label.result.now.guess;
    } in
    let within : c.args.near < length old = omega (arith, c.requires.nearest.consumer, c.requires.front.search.one_each) in
    let read : c.index-label.result.now ≡ label_at old c.args.near =
    c.index-label.ensures ∙ get_or_default _ _ _ _ within in
    let same : IsSameWay (label_at old c.args.near) label =
    record {
      hops = ap (λ (l : Label). l.hops) read;
      dist = ap (λ (l : Label). l.dist) read;
      mover = ap (λ (l : Label). l.mover) read;
    } in
    omega (
      arith,
      same.dist,
      way_small p c.args.seeker.now.entry c.args.seeker.now.placement.now.assign.items c.args.seeker.now.placement.now.prices.items
          (length_of c.args.front.now.cutoff) old (consumers p) (consumers p) c.requires.seeker.standing.placed (omega (arith, c.requires.seeker.entry))
          c.requires.front.search c.args.near c.requires.nearest.consumer c.requires.nearest.reached,
    )

pub exit_of-exit-requires-2-clause-cutoff : goal.exit_of-exit-requires-2-clause-cutoff
exit_of-exit-requires-2-clause-cutoff c =
    let p = c.args.seeker.now.problem.now.columns in
    let old : List Label = c.args.front.now.labels.items in
    let label : Label = record {
      hops = c.index-label.result.now.hops;
      dist = c.index-label.result.now.dist;
      mover = c.index-label.result.now.mover;
      closed = true;
      guess = c.index-label.result.now.guess;
    } in
    let within : c.args.near < length old = omega (arith, c.requires.nearest.consumer, c.requires.front.search.one_each) in
    let read : c.index-label.result.now ≡ label_at old c.args.near =
    c.index-label.ensures ∙ get_or_default _ _ _ _ within in
    let same : IsSameWay (label_at old c.args.near) label =
    record {
      hops = ap (λ (l : Label). l.hops) read;
      dist = ap (λ (l : Label). l.dist) read;
      mover = ap (λ (l : Label). l.mover) read;
    } in
    let before : IsClosed p c.args.seeker.now.entry c.args.seeker.now.placement.now.assign.items c.args.seeker.now.placement.now.prices.items
    (length_of c.args.front.now.cutoff) old (set old c.args.near label) c.args.near 0 =
    closed_start p c.args.seeker.now.entry c.args.seeker.now.placement.now.assign.items c.args.seeker.now.placement.now.prices.items _ old c.args.near label
    c.requires.front.search c.requires.nearest same (ap (λ (l : Label). l.guess) read) refl in
    let may = closed_may p c.args.seeker.now.entry c.args.seeker.now.placement.now.assign.items c.args.seeker.now.placement.now.prices.items
    (length_of c.args.front.now.cutoff) old (set old c.args.near label) c.ask_end.new.front.labels.items c.args.near
    c.requires.seeker.standing.placed c.requires.nearest.consumer
    (rw c.exit_of-exit.ensures.consumer at c.ask_end.ensures.asked) before in
    let at : label_at (set old c.args.near label) c.args.near ≡ label =
    get_or-set_same old c.args.near label no_label within in
    let stays : (label_at c.ask_end.new.front.labels.items c.args.near).dist ≡ label.dist =
    ap (λ (l : Label). l.dist) (may.1 ∙ at) in
    let closed : (label_at c.ask_end.new.front.labels.items c.args.near).closed ≡ true = may.0.closed in
    read_no_nearer c.dist_of-2.result (length_of c.ask_end.new.front.cutoff) c.index-label.result.now.dist
    (label_at c.ask_end.new.front.labels.items c.args.near).dist c.dist_of-2.ensures stays
    (cutoff_no_nearer p c.args.seeker.now.problem.now.steps.now c.args.seeker.now.placement.now.assign.items c.args.seeker.now.placement.now.prices.items
    c.ask_end.new.front.labels.items c.args.near c.ask_end.new.front.cutoff c.ask_end.ensures.front.cutoff
    c.requires.nearest.consumer closed)

pub loop-other-init : goal.loop-other-init
loop-other-init c =
    let p = c.args.seeker.now.problem.now.columns in
    let old : List Label = c.args.front.now.labels.items in
    let label : Label = record {
      hops = c.index-label.result.now.hops;
      dist = c.index-label.result.now.dist;
      mover = c.index-label.result.now.mover;
      closed = true;
      guess = c.index-label.result.now.guess;
    } in
    let within : c.args.near < length old = omega (arith, c.requires.nearest.consumer, c.requires.front.search.one_each) in
    let read : c.index-label.result.now ≡ label_at old c.args.near =
    c.index-label.ensures ∙ get_or_default _ _ _ _ within in
    let same : IsSameWay (label_at old c.args.near) label =
    record {
      hops = ap (λ (l : Label). l.hops) read;
      dist = ap (λ (l : Label). l.dist) read;
      mover = ap (λ (l : Label). l.mover) read;
    } in
    let before : IsClosed p c.args.seeker.now.entry c.args.seeker.now.placement.now.assign.items c.args.seeker.now.placement.now.prices.items
    (length_of c.args.front.now.cutoff) old (set old c.args.near label) c.args.near 0 =
    closed_start p c.args.seeker.now.entry c.args.seeker.now.placement.now.assign.items c.args.seeker.now.placement.now.prices.items _ old c.args.near label
    c.requires.front.search c.requires.nearest same (ap (λ (l : Label). l.guess) read) refl in
    let may = closed_may p c.args.seeker.now.entry c.args.seeker.now.placement.now.assign.items c.args.seeker.now.placement.now.prices.items
    (length_of c.args.front.now.cutoff) old (set old c.args.near label) c.ask_end.new.front.labels.items c.args.near
    c.requires.seeker.standing.placed c.requires.nearest.consumer
    (rw c.exit_of-exit.ensures.consumer at c.ask_end.ensures.asked) before in
    let at : label_at (set old c.args.near label) c.args.near ≡ label =
    get_or-set_same old c.args.near label no_label within in
    let stays : (label_at c.ask_end.new.front.labels.items c.args.near).dist ≡ label.dist =
    ap (λ (l : Label). l.dist) (may.1 ∙ at) in
    let in_prices : c.args.near < length c.args.seeker.now.placement.now.prices.items =
    omega (arith, c.requires.nearest.consumer, c.requires.seeker.standing.placed.one_each) in
    let price : c.index-price.result.now ≡ get_or c.args.seeker.now.placement.now.prices.items c.args.near 0 =
    c.index-price.ensures ∙ get_or_default _ _ _ 0 in_prices in
    record {
      table = c.ask_end.ensures.table;
      closed = closed_cut p c.args.seeker.now.entry c.args.seeker.now.placement.now.assign.items c.args.seeker.now.placement.now.prices.items
          (length_of c.args.front.now.cutoff) (length_of c.ask_end.new.front.cutoff) old c.ask_end.new.front.labels.items
          c.args.near 0 c.ask_end.ensures.front.later may.0;
      waiting = c.ask_end.ensures.front.waiting;
      exit = record {
        consumer = c.exit_of-exit-2.ensures.consumer;
        dist = omega (arith, c.exit_of-exit-2.ensures.dist, stays);
        base = omega (arith, c.exit_of-exit-2.ensures.base, price);
        most = rw c.dist_of-2.ensures at c.exit_of-exit-2.ensures.most;
      };
      still = stays;
      within = omega arith;
      cutoff = c.ask_end.ensures.front.cutoff;
    }

pub next_nearer-requires : goal.next_nearer-requires
next_nearer-requires c =
    rw (c.deref.ensures.value, c.deref-in-loop-other.ensures.value, c.deref-in-loop-other-2.ensures.value) (
    comparable c.args.seeker.now.problem.now.columns c.args.seeker.now.entry c.args.seeker.now.placement.now.assign.items
    c.args.seeker.now.placement.now.prices.items (length_of c.loop-other.front.cutoff) c.loop-other.front.labels.items
    c.loop-other.table.pairs.items c.args.near c.loop-other.first c.loop-other.exit c.requires.seeker.standing.placed
    (omega (arith, c.requires.seeker.entry)) c.requires.nearest.consumer c.requires.seeker.standing.are_steps.few
    c.loop-other.invariant.closed.search c.loop-other.invariant.closed.closed c.loop-other.invariant.table.pairs
    c.loop-other.invariant.exit
    )

pub offer-requires-clause-front : goal.offer-requires-clause-front
offer-requires-clause-front c = record {
  search = rw c.loop-other.invariant.exit.consumer (
      search_none c.args.seeker.now.problem.now.columns c.args.seeker.now.entry
      c.args.seeker.now.placement.now.assign.items
      c.args.seeker.now.placement.now.prices.items (length_of c.loop-other.front.cutoff)
      c.loop-other.front.labels.items c.args.near
      c.loop-other.first c.loop-other.invariant.closed.search
      );
  cutoff = c.loop-other.invariant.cutoff;
  waiting = c.loop-other.invariant.waiting;
}

pub exit_of-exit-requires-in-Some-clause-cutoff : goal.exit_of-exit-requires-in-Some-clause-cutoff
exit_of-exit-requires-in-Some-clause-cutoff c =
    let p = c.args.seeker.now.problem.now.columns in
    let xs : List ℕ = c.args.seeker.now.placement.now.assign.items in
    let prices : List ℕ = c.args.seeker.now.placement.now.prices.items in
    let old : List Label = c.loop-other.front.labels.items in
    let new : List Label = c.offer.new.front.labels.items in
    let offered : IsAsked p c.args.seeker.now.entry xs prices (length_of c.loop-other.front.cutoff) c.args.near
    c.in-Some.other old new
    ⊎ IsGuessing p c.args.seeker.now.entry xs prices c.args.near c.in-Some.other old new =
    rw c.loop-other.invariant.exit.consumer at c.offer.ensures.offered in
    let stays : label_at new c.args.near ≡ label_at old c.args.near =
    offered_stays p c.args.seeker.now.entry xs prices (length_of c.loop-other.front.cutoff) old new c.args.near
    c.in-Some.other c.args.near offered c.loop-other.invariant.closed.closed in
    let still : (label_at new c.args.near).dist ≡ c.index-label.result.now.dist =
    ap (λ (l : Label). l.dist) stays ∙ c.loop-other.invariant.still in
    let closed : (label_at new c.args.near).closed ≡ true =
    ap (λ (l : Label). l.closed) stays ∙ c.loop-other.invariant.closed.closed in
    read_no_nearer c.dist_of-in-Some.result (length_of c.offer.new.front.cutoff) c.index-label.result.now.dist
    (label_at new c.args.near).dist c.dist_of-in-Some.ensures still
    (cutoff_no_nearer p c.args.seeker.now.problem.now.steps.now xs prices new c.args.near c.offer.new.front.cutoff
    c.offer.ensures.front.cutoff c.requires.nearest.consumer closed)

pub loop-other-preserved : goal.loop-other-preserved
loop-other-preserved c =
    let p = c.args.seeker.now.problem.now.columns in
    let xs : List ℕ = c.args.seeker.now.placement.now.assign.items in
    let prices : List ℕ = c.args.seeker.now.placement.now.prices.items in
    let old : List Label = c.loop-other.front.labels.items in
    let new : List Label = c.offer.new.front.labels.items in
    let offered : IsAsked p c.args.seeker.now.entry xs prices (length_of c.loop-other.front.cutoff) c.args.near
    c.in-Some.other old new
    ⊎ IsGuessing p c.args.seeker.now.entry xs prices c.args.near c.in-Some.other old new =
    rw c.loop-other.invariant.exit.consumer at c.offer.ensures.offered in
    let stays : label_at new c.args.near ≡ label_at old c.args.near =
    offered_stays p c.args.seeker.now.entry xs prices (length_of c.loop-other.front.cutoff) old new c.args.near
    c.in-Some.other c.args.near offered c.loop-other.invariant.closed.closed in
    let still : (label_at new c.args.near).dist ≡ c.index-label.result.now.dist =
    ap (λ (l : Label). l.dist) stays ∙ c.loop-other.invariant.still in
    let in_prices : c.args.near < length prices =
    omega (arith, c.requires.nearest.consumer, c.requires.seeker.standing.placed.one_each) in
    let price : c.index-price.result.now ≡ get_or prices c.args.near 0 =
    c.index-price.ensures ∙ get_or_default _ _ _ 0 in_prices in
    let some = rw (c.deref.ensures.value, c.deref-in-loop-other.ensures.value, c.deref-in-loop-other-2.ensures.value) at
    c.in-Some.ensures.some in
    let le : c.args.seeker.now.entry ≤ p.entries = omega (arith, c.requires.seeker.entry) in
    let near : c.loop-other.exit.dist ≤ greatest_way = omega (
      arith,
      c.loop-other.invariant.exit.dist,
      dist_small p c.args.seeker.now.entry xs prices (length_of c.loop-other.front.cutoff) old c.args.near c.loop-other.first
          c.requires.seeker.standing.placed le c.loop-other.invariant.closed.search c.args.near c.requires.nearest.consumer
          c.loop-other.invariant.closed.closed,
    ) in
    let marked : AreFarOrReached p old =
    far_or_reached p c.args.seeker.now.entry xs prices (length_of c.loop-other.front.cutoff) old c.args.near c.loop-other.first
    c.requires.seeker.standing.placed le c.loop-other.invariant.closed.search in
    let passed : IsClosed p c.args.seeker.now.entry xs prices (length_of c.loop-other.front.cutoff) c.args.front.now.labels.items old
    c.args.near c.in-Some.other =
    closed_passed p c.args.seeker.now.entry xs prices (length_of c.loop-other.front.cutoff) c.args.front.now.labels.items old
    c.loop-other.table.pairs.items c.args.near c.loop-other.first c.in-Some.other c.loop-other.exit
    c.requires.seeker.standing.placed le c.requires.nearest.consumer c.loop-other.invariant.table.pairs
    c.loop-other.invariant.exit near marked some.2 c.loop-other.invariant.closed in
    record {
      table = c.offer.ensures.table;
      closed = closed_cut p c.args.seeker.now.entry xs prices (length_of c.loop-other.front.cutoff) (length_of c.offer.new.front.cutoff)
          c.args.front.now.labels.items new c.args.near (c.in-Some.other + 1) c.offer.ensures.front.later
          (closed_offer p c.args.seeker.now.entry xs prices (length_of c.loop-other.front.cutoff) c.args.front.now.labels.items old new
          c.args.near c.in-Some.other c.in-Some.other (c.in-Some.other + 1) (λ d lt ne. omega (arith, lt, ne))
          c.requires.seeker.standing.placed c.requires.nearest.consumer passed offered);
      waiting = c.offer.ensures.front.waiting;
      exit = record {
        consumer = c.exit_of-exit-in-Some.ensures.consumer;
        dist = omega (arith, c.exit_of-exit-in-Some.ensures.dist, still);
        base = omega (arith, c.exit_of-exit-in-Some.ensures.base, price);
        most = rw c.dist_of-in-Some.ensures at c.exit_of-exit-in-Some.ensures.most;
      };
      still = still;
      within = omega (arith, some.1, c.requires.seeker.standing.placed.one_each);
      cutoff = c.offer.ensures.front.cutoff;
    }

pub returns-clause-front : goal.returns-clause-front
returns-clause-front c =
    let p = c.args.seeker.now.problem.now.columns in
    let xs : List ℕ = c.args.seeker.now.placement.now.assign.items in
    let prices : List ℕ = c.args.seeker.now.placement.now.prices.items in
    let old : List Label = c.loop-other.front.labels.items in
    let none = rw (c.deref.ensures.value, c.deref-in-loop-other.ensures.value, c.deref-in-loop-other-2.ensures.value) at
    c.in_default.ensures.none in
    let le : c.args.seeker.now.entry ≤ p.entries = omega (arith, c.requires.seeker.entry) in
    let near : c.loop-other.exit.dist ≤ greatest_way = omega (
      arith,
      c.loop-other.invariant.exit.dist,
      dist_small p c.args.seeker.now.entry xs prices (length_of c.loop-other.front.cutoff) old c.args.near c.loop-other.first
          c.requires.seeker.standing.placed le c.loop-other.invariant.closed.search c.args.near c.requires.nearest.consumer
          c.loop-other.invariant.closed.closed,
    ) in
    let marked : AreFarOrReached p old =
    far_or_reached p c.args.seeker.now.entry xs prices (length_of c.loop-other.front.cutoff) old c.args.near c.loop-other.first
    c.requires.seeker.standing.placed le c.loop-other.invariant.closed.search in
    record {
      search =
          closed_round _ _ _ _ _ _ _ _ c.requires.seeker.standing.placed.one_each
          (closed_passed p c.args.seeker.now.entry xs prices (length_of c.loop-other.front.cutoff) c.args.front.now.labels.items old
          c.loop-other.table.pairs.items c.args.near c.loop-other.first (length prices) c.loop-other.exit
          c.requires.seeker.standing.placed le c.requires.nearest.consumer c.loop-other.invariant.table.pairs
          c.loop-other.invariant.exit near marked none c.loop-other.invariant.closed).search;
      cutoff = c.loop-other.invariant.cutoff;
      waiting = c.loop-other.invariant.waiting;
    }

pub ask_end-requires-clause-latest : goal.ask_end-requires-clause-latest
ask_end-requires-clause-latest c =
    let p = c.args.seeker.now.problem.now.columns in
    let old : List Label = c.args.front.now.labels.items in
    let label : Label = record {
      hops = c.index-label.result.now.hops;
      dist = c.index-label.result.now.dist;
      mover = c.index-label.result.now.mover;
      closed = true;
      guess = c.index-label.result.now.guess;
    } in
    let within : c.args.near < length old = omega (arith, c.requires.nearest.consumer, c.requires.front.search.one_each) in
    let read : c.index-label.result.now ≡ label_at old c.args.near =
    c.index-label.ensures ∙ get_or_default _ _ _ _ within in
    let same : IsSameWay (label_at old c.args.near) label =
    record {
      hops = ap (λ (l : Label). l.hops) read;
      dist = ap (λ (l : Label). l.dist) read;
      mover = ap (λ (l : Label). l.mover) read;
    } in
    rw c.exit_of-exit.ensures.consumer (
    (closed_start p c.args.seeker.now.entry c.args.seeker.now.placement.now.assign.items
    c.args.seeker.now.placement.now.prices.items (length_of c.args.front.now.cutoff) old c.args.near label
    c.requires.front.search c.requires.nearest same (ap (λ (l : Label). l.guess) read) refl).latest
    )

pub offer-requires-clause-latest : goal.offer-requires-clause-latest
offer-requires-clause-latest c = rw c.loop-other.invariant.exit.consumer c.loop-other.invariant.closed.latest

pub offer-requires-clause-is_open : goal.offer-requires-clause-is_open
offer-requires-clause-is_open c =
    let some = rw (c.deref.ensures.value, c.deref-in-loop-other.ensures.value, c.deref-in-loop-other-2.ensures.value) at
    c.in-Some.ensures.some in
    some.3.is_open
