use Rattle.std.proofs.Common.{◌≡◌, ℕ, ◌+◌, ◌*◌, ◌<◌, length, get_or, ap, ◌∙◌, refl, arith}
use Rattle.std.proofs.lemmas.List.{get_or_default}
use Rattle.sr_transport.specs.{consumers}
use Rattle.sr_solver.specs.Table.{bound_at, IsAt}
use Rattle.sr_solver.proofs.TableLemmas.{pair_in}
use Rattle.sr_solver.proofs.OfferLemmas.{price_small}
use Rattle.sr_solver.proofs.ExitLemmas.{bound_no_nearer}
use Rattle.sr_solver.proofs.search.mover.Goals as goal

pub returns-then-not-is_nearer-clause-none : goal.returns-then-not-is_nearer-clause-none
returns-then-not-is_nearer-clause-none c =
    let p = c.args.seeker.now.problem.now.columns in
    let t : ℕ = c.args.exit.consumer in
    let pair : ℕ = t * c.consumers.result + c.args.other in
    let within : pair < length c.args.table.now.pairs.items =
    pair_in p _ t c.args.other c.consumers.result c.args.table.now.pairs.items c.requires.table.pairs c.requires.near
    c.requires.other c.consumers.ensures.count in
    let is : c.index-bound.result.now ≡ bound_at c.args.table.now.pairs.items pair =
    c.index-bound.ensures ∙ get_or_default _ _ _ _ within in
    let same : pair ≡ t * consumers p + c.args.other = ap (λ n. t * n + c.args.other) c.consumers.ensures.count in
    let lt : c.args.other < length c.args.seeker.now.placement.now.prices.items = rw c.requires.seeker.standing.placed.one_each c.requires.other in
    let price : c.index-price.result.now ≡ get_or c.args.seeker.now.placement.now.prices.items c.args.other 0 =
    c.index-price.ensures ∙ get_or_default _ _ _ _ lt in
    bound_no_nearer p (IsAt c.args.seeker.now.placement.now.assign.items p.entries t) t c.args.other
    (get_or c.args.seeker.now.placement.now.prices.items c.args.other 0) (bound_at c.args.table.now.pairs.items pair) c.args.exit
    c.args.label refl
    (rw same (c.requires.table.pairs.each t c.args.other c.requires.near c.requires.other))
    (rw (is, price) at (c.is_nearer.ensures.no c.if-not-is_nearer.true))

pub returns-else-is_nearer-clause-none : goal.returns-else-is_nearer-clause-none
returns-else-is_nearer-clause-none c =
    let p = c.args.seeker.now.problem.now.columns in
    let t : ℕ = c.args.exit.consumer in
    let lt : c.args.other < length c.args.seeker.now.placement.now.prices.items = rw c.requires.seeker.standing.placed.one_each c.requires.other in
    let price : c.index-price.result.now ≡ get_or c.args.seeker.now.placement.now.prices.items c.args.other 0 =
    c.index-price.ensures ∙ get_or_default _ _ _ _ lt in
    bound_no_nearer p (IsAt c.args.seeker.now.placement.now.assign.items p.entries t) t c.args.other
    (get_or c.args.seeker.now.placement.now.prices.items c.args.other 0) c.in_ok-known.known c.args.exit c.args.label refl
    c.in_ok-known.ensures.mover.0 (rw price at (c.is_nearer-2.ensures.no c.if-is_nearer.false))

pub is_nearer-requires-clause-low : goal.is_nearer-requires-clause-low
is_nearer-requires-clause-low c =
    let p = c.args.seeker.now.problem.now.columns in
    let t : ℕ = c.args.exit.consumer in
    let pair : ℕ = t * c.consumers.result + c.args.other in
    let within : pair < length c.args.table.now.pairs.items =
    pair_in p _ t c.args.other c.consumers.result c.args.table.now.pairs.items c.requires.table.pairs c.requires.near
    c.requires.other c.consumers.ensures.count in
    let is : c.index-bound.result.now ≡ bound_at c.args.table.now.pairs.items pair =
    c.index-bound.ensures ∙ get_or_default _ _ _ _ within in
    let same : pair ≡ t * consumers p + c.args.other = ap (λ n. t * n + c.args.other) c.consumers.ensures.count in
    rw (is, same) (c.requires.table.pairs.each t c.args.other c.requires.near c.requires.other).small

pub is_nearer-requires-clause-price : goal.is_nearer-requires-clause-price
is_nearer-requires-clause-price c =
    let p = c.args.seeker.now.problem.now.columns in
    let placed = c.requires.seeker.standing.placed in
    let lt : c.args.other < length c.args.seeker.now.placement.now.prices.items =
    omega (arith, placed.one_each, c.requires.other) in
    let price : c.index-price.result.now ≡ get_or c.args.seeker.now.placement.now.prices.items c.args.other 0 =
    c.index-price.ensures ∙ get_or_default _ _ _ _ lt in
    omega (
      arith,
      price,
      price_small p c.args.seeker.now.entry c.args.seeker.now.placement.now.assign.items
          c.args.seeker.now.placement.now.prices.items placed (omega (arith, c.requires.seeker.entry)) c.args.other
          c.requires.other,
    )

pub is_nearer-requires-2-clause-price : goal.is_nearer-requires-2-clause-price
is_nearer-requires-2-clause-price c =
    let placed = c.requires.seeker.standing.placed in
    let lt : c.args.other < length c.args.seeker.now.placement.now.prices.items =
    omega (arith, placed.one_each, c.requires.other) in
    let price : c.index-price.result.now ≡ get_or c.args.seeker.now.placement.now.prices.items c.args.other 0 =
    c.index-price.ensures ∙ get_or_default _ _ _ _ lt in
    omega (
      arith,
      price,
      price_small c.args.seeker.now.problem.now.columns c.args.seeker.now.entry
          c.args.seeker.now.placement.now.assign.items
          c.args.seeker.now.placement.now.prices.items placed (omega (arith, c.requires.seeker.entry)) c.args.other
          c.requires.other,
    )
