use Rattle.std.proofs.Common.{ℕ, ◌≤◌, None, arith}
use Rattle.sr_transport.specs.{consumers}
use Rattle.sr_solver.specs.Cutoff.{length_of}
use Rattle.sr_solver.proofs.CutoffLemmas.{found_done}
use Rattle.sr_solver.proofs.OfferLemmas.{far_or_reached}
use Rattle.sr_solver.proofs.SearchLemmas.{started_round}
use Rattle.sr_solver.proofs.SetLemmas.{waiting_later}
use Rattle.sr_solver.proofs.search.search.Goals as goal

pub loop-near-init : goal.loop-near-init
loop-near-init c =
    let p = c.args.seeker.now.problem.now.columns in
    record {
      table = c.requires.table;
      round = started_round p c.args.seeker.now.entry c.args.seeker.now.placement.now.assign.items c.args.seeker.now.placement.now.prices.items
          (length_of c.start.new.front.cutoff) c.start.new.front.labels.items c.requires.seeker.standing.placed.limits
          c.start.ensures.started;
      waiting = waiting_later (consumers p) c.start.new.front.labels.items None (length_of c.start.new.front.cutoff)
          c.start.new.front.waiting (λ base sum beyond. absurd beyond) c.start.ensures.waiting;
      cutoff = c.start.ensures.cutoff;
    }

pub returns-clause-found : goal.returns-clause-found
returns-clause-found c =
    let p = c.args.seeker.now.problem.now.columns in
    let k : ℕ = c.args.seeker.now.entry in
    let xs = c.args.seeker.now.placement.now.assign.items in
    let prices = c.args.seeker.now.placement.now.prices.items in
    let placed = c.requires.seeker.standing.placed in
    let le : k ≤ p.entries = omega (arith, c.requires.seeker.entry) in
    let before = c.loop-near.invariant in
    rw (c.nearest.ensures.labels, c.nearest.ensures.cutoff) (
    found_done p c.args.seeker.now.problem.now.steps.now k xs prices c.loop-near.front.labels.items
    c.loop-near.front.cutoff placed le
    (far_or_reached p k xs prices (length_of c.loop-near.front.cutoff) c.loop-near.front.labels.items (consumers p)
    (consumers p) placed le before.round)
    before.round before.cutoff (rw before.round.one_each at c.in_default.ensures.none)
    )
