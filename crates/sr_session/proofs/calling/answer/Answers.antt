use Rattle.sr_session.proofs.calling.answer.Goals as goal

pub returns-in-Call : goal.returns-in-Call
returns-in-Call g c = record {
  ok = rw c.in-Call.is c.carry_out.ensures.ok;
  idle = c.carry_out.ensures.idle;
  err = rw c.in-Call.is c.carry_out.ensures.err;
  same = c.carry_out.ensures.same;
}

pub returns-in-Board : goal.returns-in-Board
returns-in-Board g c = record {
  ok = rw c.in-Board.is c.show_board.ensures.ok;
  idle = c.show_board.ensures.idle;
  err = rw c.in-Board.is c.show_board.ensures.err;
  same = c.show_board.ensures.same;
}

pub returns-in-Recover : goal.returns-in-Recover
returns-in-Recover g c = record {
  ok = rw c.in-Recover.is c.recover.ensures.ok;
  idle = c.recover.ensures.idle;
  err = rw c.in-Recover.is c.recover.ensures.err;
  same = c.recover.ensures.same;
}
