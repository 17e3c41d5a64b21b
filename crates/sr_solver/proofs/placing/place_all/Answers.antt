use Rattle.std.proofs.Common.{◌≡◌, arith}
use Rattle.sr_solver.proofs.placing.place_all.Goals as goal

pub loop-entry-init : goal.loop-entry-init
loop-entry-init c = record { standing = c.requires.standing; table = c.requires.table; labels_each = c.requires.labels }

pub take-requires-clause-entry : goal.take-requires-clause-entry
take-requires-clause-entry c = omega arith

pub take-requires-clause-standing : goal.take-requires-clause-standing
take-requires-clause-standing c = c.loop-entry.invariant.standing

pub take-requires-clause-table : goal.take-requires-clause-table
take-requires-clause-table c = c.loop-entry.invariant.table

pub loop-entry-preserved-then-take : goal.loop-entry-preserved-then-take
loop-entry-preserved-then-take c = record {
  standing = c.take.ensures.taken c.if-take.true;
  table = c.take.ensures.table;
  labels_each = c.loop-entry.invariant.labels_each;
}

pub place-requires-clause-entry : goal.place-requires-clause-entry
place-requires-clause-entry c = omega arith

pub place-requires-clause-standing : goal.place-requires-clause-standing
place-requires-clause-standing c = c.take.ensures.left c.if-take.false

pub place-requires-clause-table : goal.place-requires-clause-table
place-requires-clause-table c = c.take.ensures.table

pub place-requires-clause-labels : goal.place-requires-clause-labels
place-requires-clause-labels c = c.loop-entry.invariant.labels_each

pub loop-entry-preserved : goal.loop-entry-preserved
loop-entry-preserved c = record {
  standing = c.place.ensures.standing c.if-not-place.false;
  table = c.place.ensures.table c.if-not-place.false;
  labels_each = c.place.ensures.labels;
}

pub returns-then-are_many : goal.returns-then-are_many
returns-then-are_many c = c.if-not-is_patient.true

pub returns-then-not-place : goal.returns-then-not-place
returns-then-not-place c = c.place.ensures.stuck c.if-not-place.true

pub returns : goal.returns
returns c =
    let all : c.loop-entry.entry ≡ c.args.problem.now.columns.entries = omega arith in
    rw all at c.loop-entry.invariant.standing
