use Rattle.std.proofs.Common.{◌≡◌, ℕ, ◌<◌, ◌≤◌, length, get_or, true, sym, ap, ◌∙◌, inl, inr, arith}
use Rattle.std.proofs.lemmas.Bool.{cases_eq}
use Rattle.std.proofs.lemmas.List.{get_or_default}
use Rattle.sr_transport.specs.{consumers}
use Rattle.sr_solver.specs.declared.label.Label.{Label}
use Rattle.sr_solver.specs.Cutoff.{length_of}
use Rattle.sr_solver.specs.Labels.{label_at}
use Rattle.sr_solver.specs.Offers.{IsAsked}
use Rattle.sr_solver.proofs.CloseLemmas.{round_none}
use Rattle.sr_solver.proofs.OfferLemmas.{price_small, dist_small, read_no_nearer, cutoff_no_nearer, after_settled}
use Rattle.sr_solver.proofs.OfferLemmas.{settled_skip, settled_more, settled_round, settled_cutoff, asked_same}
use Rattle.sr_solver.proofs.SetLemmas.{waiting_forgot}
use Rattle.sr_solver.proofs.search.settle.Goals as goal

pub loop-from-preserved-then-not-index : goal.loop-from-preserved-then-not-index
loop-from-preserved-then-not-index c =
    let p = c.args.seeker.now.problem.now.columns in
    let k : ℕ = c.args.seeker.now.entry in
    let xs = c.args.seeker.now.placement.now.assign.items in
    let prices = c.args.seeker.now.placement.now.prices.items in
    let placed = c.requires.seeker.standing.placed in
    let le : k ≤ p.entries = omega (arith, c.requires.seeker.entry) in
    let labels = c.loop-from.front.labels.items in
    let before = c.loop-from.invariant in
    let lt : c.loop-from.from < consumers p = omega (arith, c.loop-from-test.true, c.loop-from.auto.from-end, c.consumers-from-end.ensures.count) in
    let within : c.loop-from.from < length labels = omega (arith, lt, before.front.search.one_each) in
    let read : c.index.result.now ≡ label_at labels c.loop-from.from =
    c.index.ensures ∙ get_or_default _ _ _ _ within in
    record {
      table = before.table;
      front = before.front;
      settled = settled_skip p k xs prices (length_of c.loop-from.front.cutoff) labels c.loop-from.from c.args.near
          (sym (ap (λ (l : Label). l.closed) read) ∙ c.if-not-index.true) before.settled;
      is_open = before.is_open;
      guess = before.guess;
      opened = before.opened;
      guesses = before.guesses;
    }

pub exit_of-exit-requires-clause-dist : goal.exit_of-exit-requires-clause-dist
exit_of-exit-requires-clause-dist c =
    let p = c.args.seeker.now.problem.now.columns in
    let k : ℕ = c.args.seeker.now.entry in
    let xs = c.args.seeker.now.placement.now.assign.items in
    let prices = c.args.seeker.now.placement.now.prices.items in
    let placed = c.requires.seeker.standing.placed in
    let le : k ≤ p.entries = omega (arith, c.requires.seeker.entry) in
    let labels = c.loop-from.front.labels.items in
    let before = c.loop-from.invariant in
    let lt : c.loop-from.from < consumers p = omega (arith, c.loop-from-test.true, c.loop-from.auto.from-end, c.consumers-from-end.ensures.count) in
    let within : c.loop-from.from < length labels = omega (arith, lt, before.front.search.one_each) in
    let read : c.index.result.now ≡ label_at labels c.loop-from.from =
    c.index.ensures ∙ get_or_default _ _ _ _ within in
    let closed : (label_at labels c.loop-from.from).closed ≡ true =
    sym (ap (λ (l : Label). l.closed) read) ∙ c.if-not-index.false in
    let dist : c.index-in-loop-from.result.now ≡ label_at labels c.loop-from.from =
    c.index-in-loop-from.ensures ∙ get_or_default _ _ _ _ within in
    omega (
      arith,
      ap (λ (l : Label). l.dist) dist,
      dist_small p k xs prices (length_of c.loop-from.front.cutoff) labels (consumers p) (consumers p) placed le
          before.front.search c.loop-from.from lt closed,
    )

pub exit_of-exit-requires-clause-price : goal.exit_of-exit-requires-clause-price
exit_of-exit-requires-clause-price c =
    let p = c.args.seeker.now.problem.now.columns in
    let k : ℕ = c.args.seeker.now.entry in
    let xs = c.args.seeker.now.placement.now.assign.items in
    let prices = c.args.seeker.now.placement.now.prices.items in
    let placed = c.requires.seeker.standing.placed in
    let le : k ≤ p.entries = omega (arith, c.requires.seeker.entry) in
    let labels = c.loop-from.front.labels.items in
    let before = c.loop-from.invariant in
    let lt : c.loop-from.from < consumers p = omega (arith, c.loop-from-test.true, c.loop-from.auto.from-end, c.consumers-from-end.ensures.count) in
    let within : c.loop-from.from < length labels = omega (arith, lt, before.front.search.one_each) in
    let read : c.index.result.now ≡ label_at labels c.loop-from.from =
    c.index.ensures ∙ get_or_default _ _ _ _ within in
    let ltp : c.loop-from.from < length prices = omega (arith, placed.one_each, lt) in
    let price : c.index-price.result.now ≡ get_or prices c.loop-from.from 0 =
    c.index-price.ensures ∙ get_or_default _ _ _ _ ltp in
    omega (arith, price, price_small p k xs prices placed le c.loop-from.from lt)

pub exit_of-exit-requires-clause-cutoff : goal.exit_of-exit-requires-clause-cutoff
exit_of-exit-requires-clause-cutoff c =
    let p = c.args.seeker.now.problem.now.columns in
    let k : ℕ = c.args.seeker.now.entry in
    let xs = c.args.seeker.now.placement.now.assign.items in
    let prices = c.args.seeker.now.placement.now.prices.items in
    let placed = c.requires.seeker.standing.placed in
    let le : k ≤ p.entries = omega (arith, c.requires.seeker.entry) in
    let labels = c.loop-from.front.labels.items in
    let before = c.loop-from.invariant in
    let lt : c.loop-from.from < consumers p = omega (arith, c.loop-from-test.true, c.loop-from.auto.from-end, c.consumers-from-end.ensures.count) in
    let within : c.loop-from.from < length labels = omega (arith, lt, before.front.search.one_each) in
    let read : c.index.result.now ≡ label_at labels c.loop-from.from =
    c.index.ensures ∙ get_or_default _ _ _ _ within in
    let closed : (label_at labels c.loop-from.from).closed ≡ true =
    sym (ap (λ (l : Label). l.closed) read) ∙ c.if-not-index.false in
    let dist : c.index-in-loop-from.result.now ≡ label_at labels c.loop-from.from =
    c.index-in-loop-from.ensures ∙ get_or_default _ _ _ _ within in
    read_no_nearer c.dist_of.result (length_of c.loop-from.front.cutoff) c.index-in-loop-from.result.now.dist
    (label_at labels c.loop-from.from).dist c.dist_of.ensures (sym (ap (λ (l : Label). l.dist) dist))
    (cutoff_no_nearer p c.args.seeker.now.problem.now.steps.now xs prices labels c.loop-from.from
    c.loop-from.front.cutoff before.front.cutoff lt closed)

pub ask-requires-clause-front : goal.ask-requires-clause-front
ask-requires-clause-front c = record {
  search = rw c.exit_of-exit.ensures.consumer (
      round_none c.args.seeker.now.problem.now.columns c.args.seeker.now.entry
      c.args.seeker.now.placement.now.assign.items c.args.seeker.now.placement.now.prices.items
      (length_of c.loop-from.front.cutoff) c.loop-from.front.labels.items c.loop-from.from
      c.loop-from.invariant.front.search
      );
  cutoff = c.loop-from.invariant.front.cutoff;
  waiting = c.loop-from.invariant.front.waiting;
}

pub ask-requires-clause-after : goal.ask-requires-clause-after
ask-requires-clause-after c =
    let p = c.args.seeker.now.problem.now.columns in
    let k : ℕ = c.args.seeker.now.entry in
    let xs = c.args.seeker.now.placement.now.assign.items in
    let prices = c.args.seeker.now.placement.now.prices.items in
    let placed = c.requires.seeker.standing.placed in
    let le : k ≤ p.entries = omega (arith, c.requires.seeker.entry) in
    let labels = c.loop-from.front.labels.items in
    let before = c.loop-from.invariant in
    let lt : c.loop-from.from < consumers p = omega (arith, c.loop-from-test.true, c.loop-from.auto.from-end, c.consumers-from-end.ensures.count) in
    let within : c.loop-from.from < length labels = omega (arith, lt, before.front.search.one_each) in
    let read : c.index.result.now ≡ label_at labels c.loop-from.from =
    c.index.ensures ∙ get_or_default _ _ _ _ within in
    let closed : (label_at labels c.loop-from.from).closed ≡ true =
    sym (ap (λ (l : Label). l.closed) read) ∙ c.if-not-index.false in
    let after = after_settled p c.args.seeker.now.problem.now.steps.now k xs prices labels c.loop-from.front.cutoff
    c.loop-from.from c.args.near before.front.search before.front.cutoff closed before.is_open in
    rw c.exit_of-exit.ensures.consumer after

pub loop-from-preserved : goal.loop-from-preserved
loop-from-preserved c =
    let p = c.args.seeker.now.problem.now.columns in
    let k : ℕ = c.args.seeker.now.entry in
    let xs = c.args.seeker.now.placement.now.assign.items in
    let prices = c.args.seeker.now.placement.now.prices.items in
    let placed = c.requires.seeker.standing.placed in
    let le : k ≤ p.entries = omega (arith, c.requires.seeker.entry) in
    let labels = c.loop-from.front.labels.items in
    let before = c.loop-from.invariant in
    let lt : c.loop-from.from < consumers p = omega (arith, c.loop-from-test.true, c.loop-from.auto.from-end, c.consumers-from-end.ensures.count) in
    let within : c.loop-from.from < length labels = omega (arith, lt, before.front.search.one_each) in
    let read : c.index.result.now ≡ label_at labels c.loop-from.from =
    c.index.ensures ∙ get_or_default _ _ _ _ within in
    let closed : (label_at labels c.loop-from.from).closed ≡ true =
    sym (ap (λ (l : Label). l.closed) read) ∙ c.if-not-index.false in
    let after = after_settled p c.args.seeker.now.problem.now.steps.now k xs prices labels c.loop-from.front.cutoff
    c.loop-from.from c.args.near before.front.search before.front.cutoff closed before.is_open in
    let asked : IsAsked p k xs prices (length_of c.loop-from.front.cutoff) c.loop-from.from c.args.near labels
    c.ask.new.front.labels.items =
    rw c.exit_of-exit.ensures.consumer at c.ask.ensures.asked in
    let same = asked_same p k xs prices (length_of c.loop-from.front.cutoff) labels c.ask.new.front.labels.items
    c.loop-from.from c.args.near asked in
    let more = settled_more p c.args.seeker.now.problem.now.steps.now k xs prices labels c.ask.new.front.labels.items
    (length_of c.loop-from.front.cutoff) (length_of c.ask.new.front.cutoff) c.loop-from.from c.args.near placed
    before.front.search lt c.requires.near closed after asked c.ask.ensures.front.later before.settled in
    record {
      table = c.ask.ensures.table;
      front = record {
        search = more.0;
        cutoff = c.ask.ensures.front.cutoff;
        waiting = c.ask.ensures.front.waiting;
      };
      settled = more.1;
      is_open = same.closed c.args.near ∙ before.is_open;
      guess = omega (arith, same.guess c.args.near, before.guess);
      opened = same.opened ∙ before.opened;
      guesses = same.guesses ∙ before.guesses;
    }

pub returns-clause-front : goal.returns-clause-front
returns-clause-front c =
    let p = c.args.seeker.now.problem.now.columns in
    let k : ℕ = c.args.seeker.now.entry in
    let xs = c.args.seeker.now.placement.now.assign.items in
    let prices = c.args.seeker.now.placement.now.prices.items in
    let placed = c.requires.seeker.standing.placed in
    let le : k ≤ p.entries = omega (arith, c.requires.seeker.entry) in
    let labels = c.loop-from.front.labels.items in
    let done = c.loop-from.invariant in
    let within : c.args.near < length labels = omega (arith, c.requires.near, done.front.search.one_each) in
    let all : c.loop-from.from ≡ consumers p =
    omega (arith, c.loop-from-test.false, c.loop-from.auto.from-end, c.consumers-from-end.ensures.count) in
    record {
      search = rw c.forget_guess.ensures.cutoff (
          settled_round p k xs prices (length_of c.loop-from.front.cutoff) labels c.forget_guess.new.front.labels.items
          c.args.near placed le within done.front.search c.forget_guess.ensures.labels (rw all at done.settled)
          );
      cutoff = rw c.forget_guess.ensures.cutoff (
          settled_cutoff p c.args.seeker.now.problem.now.steps.now xs prices labels
          c.forget_guess.new.front.labels.items c.loop-from.front.cutoff c.args.near within
          c.forget_guess.ensures.labels done.front.cutoff
          );
      waiting = rw (c.forget_guess.ensures.labels, c.forget_guess.ensures.cutoff) (
          waiting_forgot (consumers p) (length_of c.loop-from.front.cutoff) labels c.loop-from.front.waiting
          c.forget_guess.new.front.waiting c.args.near within
          (λ d now. elim (cases_eq (label_at labels c.args.near).hops 0) [
            | inl none ↦ (c.forget_guess.ensures.unreached none).back d now
            | inr some ↦ rw (c.forget_guess.ensures.reached (omega (arith, some))) at now
          ])
          (λ d kept was. elim (cases_eq (label_at labels c.args.near).hops 0) [
            | inl none ↦ elim kept [
              | inl ne ↦ (c.forget_guess.ensures.unreached none).kept d ne was
              | inr up ↦ absurd (omega (arith, up, none))
            ]
            | inr some ↦ rw (c.forget_guess.ensures.reached (omega (arith, some))) was
          ])
          done.front.waiting
          );
    }
