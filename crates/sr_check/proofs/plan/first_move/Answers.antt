use Rattle.sr_check.specs.PlanAnswer.{name_at}
use Rattle.sr_check.proofs.MoveLemmas.{no_move-header, no_move-id, move-name, no_move-name}
use Rattle.sr_check.proofs.plan.first_move.Goals as goal

pub returns-in_default-clause-none : goal.returns-in_default-clause-none
returns-in_default-clause-none c =
    λ n after has. no_move-header c.args.live.now c.args.entry.now c.args.bytes.now n after
    c.in_default.ensures.none has

pub returns-in_default-after_id-clause-none : goal.returns-in_default-after_id-clause-none
returns-in_default-after_id-clause-none c = λ n after has.
    no_move-id c.args.live.now c.args.entry.now c.args.bytes.now c.in-Some.id.now n after c.in-Some.ensures.found
    c.in_default-after_id.ensures.none has

pub returns-in_default-bulk-clause-none : goal.returns-in_default-bulk-clause-none
returns-in_default-bulk-clause-none c = λ n after has.
    let live = c.args.live.now in
    c.in_default-bulk.ensures.none (name_at live n) after
    (move-name live c.args.entry.now c.args.bytes.now c.in-Some.id.now c.in-Some-after_id.name.now n after
    c.in-Some.ensures.found c.in-Some-after_id.ensures.found has)

pub returns-in-None-clause-none : goal.returns-in-None-clause-none
returns-in-None-clause-none c = λ n after has.
    no_move-name c.args.live.now c.args.entry.now c.args.bytes.now c.in-Some.id.now c.in-Some-after_id.name.now
    c.in-Some-bulk.name.now c.in-Some-bulk.after.now n after
    c.in-Some.ensures.found c.in-Some-after_id.ensures.found c.in-Some-bulk.ensures.found c.in-None.ensures.none has
