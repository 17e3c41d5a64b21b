use Rattle.std.proofs.Common.{◌≡◌, ℕ, ◌+◌, ◌*◌, ◌<◌, ◌≤◌, length, get_or, min, sym, ap, ◌∙◌, inr, arith}
use Rattle.std.proofs.lemmas.List.{get_or_default}
use Rattle.sr_transport.specs.{consumers}
use Rattle.sr_solver.specs.declared.label.Label.{Label}
use Rattle.sr_solver.specs.Cutoff.{length_of}
use Rattle.sr_solver.specs.Labels.{label_at}
use Rattle.sr_solver.specs.Offers.{IsGuessing}
use Rattle.sr_solver.specs.Table.{bound_at}
use Rattle.sr_solver.proofs.TableLemmas.{pair_in}
use Rattle.sr_solver.proofs.OfferLemmas.{price_small, after_latest, guess_noted, cutoff_guessing}
use Rattle.sr_solver.proofs.SetLemmas.{waiting_moved}
use Rattle.sr_solver.proofs.search.offer.Goals as goal

pub guessed-dist-requires-clause-low : goal.guessed-dist-requires-clause-low
guessed-dist-requires-clause-low c =
    let p = c.args.seeker.now.problem.now.columns in
    let t : ℕ = c.args.exit.consumer in
    let pair : ℕ = t * c.consumers.result + c.args.other in
    let within : pair < length c.args.table.now.pairs.items =
    pair_in p _ t c.args.other c.consumers.result c.args.table.now.pairs.items c.requires.table.pairs
    c.requires.exit.consumer c.requires.other c.consumers.ensures.count in
    let is : c.index-bound.result.now ≡ bound_at c.args.table.now.pairs.items pair =
    c.index-bound.ensures ∙ get_or_default _ _ _ _ within in
    let same : pair ≡ t * consumers p + c.args.other = ap (λ n. t * n + c.args.other) c.consumers.ensures.count in
    rw (is, same) (c.requires.table.pairs.each t c.args.other c.requires.exit.consumer c.requires.other).small

pub guessed-dist-requires-clause-price : goal.guessed-dist-requires-clause-price
guessed-dist-requires-clause-price c =
    let p = c.args.seeker.now.problem.now.columns in
    let k : ℕ = c.args.seeker.now.entry in
    let xs = c.args.seeker.now.placement.now.assign.items in
    let prices = c.args.seeker.now.placement.now.prices.items in
    let placed = c.requires.seeker.standing.placed in
    let le : k ≤ p.entries = omega (arith, c.requires.seeker.entry) in
    let ltp : c.args.other < length prices = omega (arith, placed.one_each, c.requires.other) in
    let price : c.index-then-is_full.result.now ≡ get_or prices c.args.other 0 =
    c.index-then-is_full.ensures ∙ get_or_default _ _ _ _ ltp in
    omega (arith, price, price_small p k xs prices placed le c.args.other c.requires.other)

pub returns-then-is_full-clause-offered : goal.returns-then-is_full-clause-offered
returns-then-is_full-clause-offered c =
    let p = c.args.seeker.now.problem.now.columns in
    let k : ℕ = c.args.seeker.now.entry in
    let xs = c.args.seeker.now.placement.now.assign.items in
    let prices = c.args.seeker.now.placement.now.prices.items in
    let placed = c.requires.seeker.standing.placed in
    let le : k ≤ p.entries = omega (arith, c.requires.seeker.entry) in
    let t : ℕ = c.args.exit.consumer in
    let pair : ℕ = t * c.consumers.result + c.args.other in
    let within : pair < length c.args.table.now.pairs.items =
    pair_in p _ t c.args.other c.consumers.result c.args.table.now.pairs.items c.requires.table.pairs
    c.requires.exit.consumer c.requires.other c.consumers.ensures.count in
    let is : c.index-bound.result.now ≡ bound_at c.args.table.now.pairs.items pair =
    c.index-bound.ensures ∙ get_or_default _ _ _ _ within in
    let same : pair ≡ t * consumers p + c.args.other = ap (λ n. t * n + c.args.other) c.consumers.ensures.count in
    let ltp : c.args.other < length prices = omega (arith, placed.one_each, c.requires.other) in
    let price : c.index-then-is_full.result.now ≡ get_or prices c.args.other 0 =
    c.index-then-is_full.ensures ∙ get_or_default _ _ _ _ ltp in
    let old = c.args.front.now.labels.items in
    let guessing : IsGuessing p k xs prices t c.args.other old c.guess.new.front.labels.items =
    guess_noted p k xs prices t c.args.other c.guessed-dist.result (length_of c.args.front.now.cutoff) old
    c.guess.new.front.labels.items c.args.exit (bound_at c.args.table.now.pairs.items pair) placed le c.requires.other
    c.requires.front.search c.requires.latest c.requires.is_open c.requires.exit.leaves
    (rw same (c.requires.table.pairs.each t c.args.other c.requires.exit.consumer c.requires.other))
    (rw (is, price) at c.guessed-dist.ensures) c.guess.ensures.labels in
    inr guessing

pub returns-then-is_full-clause-front : goal.returns-then-is_full-clause-front
returns-then-is_full-clause-front c =
    let p = c.args.seeker.now.problem.now.columns in
    let k : ℕ = c.args.seeker.now.entry in
    let xs = c.args.seeker.now.placement.now.assign.items in
    let prices = c.args.seeker.now.placement.now.prices.items in
    let placed = c.requires.seeker.standing.placed in
    let le : k ≤ p.entries = omega (arith, c.requires.seeker.entry) in
    let t : ℕ = c.args.exit.consumer in
    let pair : ℕ = t * c.consumers.result + c.args.other in
    let within : pair < length c.args.table.now.pairs.items =
    pair_in p _ t c.args.other c.consumers.result c.args.table.now.pairs.items c.requires.table.pairs
    c.requires.exit.consumer c.requires.other c.consumers.ensures.count in
    let is : c.index-bound.result.now ≡ bound_at c.args.table.now.pairs.items pair =
    c.index-bound.ensures ∙ get_or_default _ _ _ _ within in
    let same : pair ≡ t * consumers p + c.args.other = ap (λ n. t * n + c.args.other) c.consumers.ensures.count in
    let ltp : c.args.other < length prices = omega (arith, placed.one_each, c.requires.other) in
    let price : c.index-then-is_full.result.now ≡ get_or prices c.args.other 0 =
    c.index-then-is_full.ensures ∙ get_or_default _ _ _ _ ltp in
    let old = c.args.front.now.labels.items in
    let guessing : IsGuessing p k xs prices t c.args.other old c.guess.new.front.labels.items =
    guess_noted p k xs prices t c.args.other c.guessed-dist.result (length_of c.args.front.now.cutoff) old
    c.guess.new.front.labels.items c.args.exit (bound_at c.args.table.now.pairs.items pair) placed le c.requires.other
    c.requires.front.search c.requires.latest c.requires.is_open c.requires.exit.leaves
    (rw same (c.requires.table.pairs.each t c.args.other c.requires.exit.consumer c.requires.other))
    (rw (is, price) at c.guessed-dist.ensures) c.guess.ensures.labels in
    let label : Label =
    record (label_at old c.args.other) { guess = min (label_at old c.args.other).guess c.guessed-dist.result } in
    record {
      cutoff = rw c.guess.ensures.cutoff (
          cutoff_guessing p c.args.seeker.now.problem.now.steps.now k xs prices t c.args.other old
          c.guess.new.front.labels.items c.args.front.now.cutoff guessing c.requires.front.cutoff
          );
      later = λ base sum beyond. rw c.guess.ensures.cutoff beyond;
      waiting = rw (c.guess.ensures.labels, c.guess.ensures.cutoff) (
          waiting_moved (consumers p) (length_of c.args.front.now.cutoff) old c.args.front.now.waiting
          c.guess.new.front.waiting c.args.other label c.requires.other (sym c.requires.front.search.one_each)
          c.requires.is_open c.guess.ensures.waiting c.requires.front.waiting
          );
    }

pub ask-requires-clause-after : goal.ask-requires-clause-after
ask-requires-clause-after c =
    after_latest c.args.seeker.now.problem.now.columns c.args.seeker.now.entry
    c.args.seeker.now.placement.now.assign.items c.args.seeker.now.placement.now.prices.items
    c.args.front.now.labels.items c.args.exit.consumer c.args.other c.requires.seeker.standing.placed c.requires.latest
