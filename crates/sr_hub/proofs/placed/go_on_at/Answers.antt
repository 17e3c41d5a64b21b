use Rattle.sr_hub.proofs.TimeLemmas.{timed_then}
use Rattle.sr_hub.proofs.HubLemmas.{begins-at, moves-at}
use Rattle.sr_hub.proofs.MoveLemmas.{begun-begins, moves-then}
use Rattle.sr_hub.proofs.placed.go_on_at.Goals as goal

pub returns-clause-moves : goal.returns-clause-moves
returns-clause-moves c = λ is.
    moves-at c.args.connections.now c.args.book.now c.answer_waiting.new.book c.args.token c.in-Some.connection.now c.answer_waiting.new.connection c.in-Some.ensures.value
    (moves-then c.args.book.now c.in-Some.connection.now c.begin_asked.new.book c.begin_asked.new.connection c.answer_waiting.new.book c.answer_waiting.new.connection c.begin_asked.ensures.moves c.answer_waiting.ensures.moves)
    c.answer_waiting.ensures.rest

pub returns-clause-timed : goal.returns-clause-timed
returns-clause-timed c =
    timed_then c.args.moment c.args.book.now c.begin_asked.new.book c.answer_waiting.new.book c.begin_asked.ensures.timed c.answer_waiting.ensures.timed

pub returns-clause-begins : goal.returns-clause-begins
returns-clause-begins c = λ is.
    begins-at c.args.connections.now c.args.book.now c.answer_waiting.new.book c.args.token c.in-Some.connection.now c.answer_waiting.new.connection c.in-Some.ensures.value
    (begun-begins c.in-Some.connection.now c.begin_asked.new.connection c.answer_waiting.new.connection c.begin_asked.ensures.begun c.begin_asked.ensures.left c.answer_waiting.ensures.asks)
