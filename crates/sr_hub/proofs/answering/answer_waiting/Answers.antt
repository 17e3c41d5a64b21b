use Rattle.std.proofs.Common.{inl, refl}
use Rattle.sr_hub.proofs.MoveLemmas.{asks-later, goes-then, moves-none, moves-then}
use Rattle.sr_hub.proofs.TimeLemmas.{timed_none, timed_then}
use Rattle.sr_hub.proofs.answering.answer_waiting.Goals as goal

pub loop-alloc-init : goal.loop-alloc-init
loop-alloc-init c = record {
  moves = moves-none c.args.book.now c.args.connection.now;
  timed = timed_none c.args.moment c.args.book.now;
  goes = inl refl;
}

pub loop-alloc-preserved : goal.loop-alloc-preserved
loop-alloc-preserved c = record {
  moves = moves-then c.args.book.now c.args.connection.now c.loop-alloc.book c.loop-alloc.connection c.answer_more.new.book c.answer_more.new.connection c.loop-alloc.invariant.moves c.answer_more.ensures.moves;
  timed = timed_then c.args.moment c.args.book.now c.loop-alloc.book c.answer_more.new.book c.loop-alloc.invariant.timed c.answer_more.ensures.timed;
  goes = goes-then c.args.connection.now c.loop-alloc.connection c.answer_more.new.connection c.loop-alloc.invariant.goes (c.answer_more.ensures.fewer c.loop-alloc-test.true);
}

pub returns-clause-moves : goal.returns-clause-moves
returns-clause-moves c =
    moves-then c.args.book.now c.args.connection.now c.loop-alloc.book c.loop-alloc.connection c.answer_more.new.book c.answer_more.new.connection c.loop-alloc.invariant.moves c.answer_more.ensures.moves

pub returns-clause-timed : goal.returns-clause-timed
returns-clause-timed c =
    timed_then c.args.moment c.args.book.now c.loop-alloc.book c.answer_more.new.book c.loop-alloc.invariant.timed c.answer_more.ensures.timed

pub returns-clause-asks : goal.returns-clause-asks
returns-clause-asks c = λ asks.
    asks-later c.args.connection.now c.loop-alloc.connection c.answer_more.new.connection c.loop-alloc.invariant.goes (c.answer_more.ensures.stays c.loop-alloc-test.false asks) asks
