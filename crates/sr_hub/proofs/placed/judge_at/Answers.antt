use Rattle.sr_hub.proofs.TimeLemmas.{timed_then}
use Rattle.sr_hub.proofs.HubLemmas.{moves-at}
use Rattle.sr_hub.proofs.MoveLemmas.{moves-then}
use Rattle.sr_hub.proofs.placed.judge_at.Goals as goal

pub returns-clause-moves : goal.returns-clause-moves
returns-clause-moves c =
    moves-at c.args.connections.now c.args.book.now c.answer_waiting.new.book c.args.token c.in-Some.connection.now c.answer_waiting.new.connection c.in-Some.ensures.value
    (moves-then c.args.book.now c.in-Some.connection.now c.judge_round.new.book c.judge_round.new.connection c.answer_waiting.new.book c.answer_waiting.new.connection c.judge_round.ensures.moves c.answer_waiting.ensures.moves)
    c.answer_waiting.ensures.rest

pub returns-clause-timed : goal.returns-clause-timed
returns-clause-timed c =
    timed_then c.args.moment c.args.book.now c.judge_round.new.book c.answer_waiting.new.book c.judge_round.ensures.timed c.answer_waiting.ensures.timed
