use Rattle.std.proofs.Common.{◌≡◌, length, ap, ◌∙◌, arith}
use Rattle.sr_solver.proofs.OfferLemmas.{prices_low}
use Rattle.sr_solver.proofs.placing.take_all.Goals as goal

pub loop-entry-init : goal.loop-entry-init
loop-entry-init c = c.requires.standing

pub taker-requires-clause-entry : goal.taker-requires-clause-entry
taker-requires-clause-entry c = omega arith

pub taker-requires-clause-steps_each : goal.taker-requires-clause-steps_each
taker-requires-clause-steps_each c = c.loop-entry.invariant.are_steps.one_each

pub taker-requires-clause-prices_each : goal.taker-requires-clause-prices_each
taker-requires-clause-prices_each c = ap length c.deref.ensures.value ∙ c.loop-entry.invariant.placed.one_each

pub taker-requires-clause-loads_each : goal.taker-requires-clause-loads_each
taker-requires-clause-loads_each c =
    ap length c.deref-in-loop-entry.ensures.value ∙ c.loop-entry.invariant.loads.one_each

pub taker-requires-clause-low : goal.taker-requires-clause-low
taker-requires-clause-low c =
    let now = c.loop-entry.placement in
    prices_low c.args.problem.now.columns c.loop-entry.entry now.assign.items now.prices.items c.deref.result.now
    c.loop-entry.invariant.placed
    (omega arith) c.deref.ensures.value

pub returns-in_default-clause-few : goal.returns-in_default-clause-few
returns-in_default-clause-few c = omega arith

pub returns-in_default-clause-standing : goal.returns-in_default-clause-standing
returns-in_default-clause-standing c = c.loop-entry.invariant

pub returns-in_default-clause-stopped : goal.returns-in_default-clause-stopped
returns-in_default-clause-stopped c =
    λ lt. rw c.deref.ensures.value at (rw c.deref-in-loop-entry.ensures.value at c.in_default.ensures.none)

pub join-requires-clause-entry : goal.join-requires-clause-entry
join-requires-clause-entry c = omega arith

pub join-requires-clause-standing : goal.join-requires-clause-standing
join-requires-clause-standing c = c.loop-entry.invariant

pub join-requires-clause-taker : goal.join-requires-clause-taker
join-requires-clause-taker c =
    rw c.deref.ensures.value at (rw c.deref-in-loop-entry.ensures.value at c.in-Some.ensures.some)

pub loop-entry-preserved : goal.loop-entry-preserved
loop-entry-preserved c = c.join.ensures

pub returns-clause-few : goal.returns-clause-few
returns-clause-few c = omega arith

pub returns-clause-stopped : goal.returns-clause-stopped
returns-clause-stopped c = λ lt. absurd (omega arith)

pub returns-clause-standing : goal.returns-clause-standing
returns-clause-standing c =
    let all : c.loop-entry.entry ≡ c.entries.result = omega arith in
    rw all at c.loop-entry.invariant
