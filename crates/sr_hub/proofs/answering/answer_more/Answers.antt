use Rattle.sr_hub.proofs.MoveLemmas.{moves-none}
use Rattle.sr_hub.proofs.answering.answer_more.Goals as goal

pub returns-in-Asks-clause-moves : goal.returns-in-Asks-clause-moves
returns-in-Asks-clause-moves c = moves-none c.args.book.now c.args.connection.now

pub returns-in-Asks-2-clause-moves : goal.returns-in-Asks-2-clause-moves
returns-in-Asks-2-clause-moves c = moves-none c.args.book.now c.args.connection.now

pub returns-in-Asks-3-clause-moves : goal.returns-in-Asks-3-clause-moves
returns-in-Asks-3-clause-moves c = moves-none c.args.book.now c.args.connection.now

pub returns-in-Asks-4-clause-moves : goal.returns-in-Asks-4-clause-moves
returns-in-Asks-4-clause-moves c = moves-none c.args.book.now c.args.connection.now
