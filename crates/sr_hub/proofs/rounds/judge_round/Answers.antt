use Rattle.std.proofs.Common.{sym}
use Rattle.sr_hub.proofs.MoveLemmas.{judged-moves, unjudged-moves}
use Rattle.sr_hub.proofs.rounds.judge_round.Goals as goal

pub returns-in-Ok-clause-moves : goal.returns-in-Ok-clause-moves
returns-in-Ok-clause-moves c =
    judged-moves c.args.book.now c.conclude_verdict.new.book c.args.connection.now c.take_round-snapshot.new.connection c.conclude_verdict.new.connection _ c.in-Ok.verdict
    (sym c.take_round-snapshot.ensures.stage) c.take_round-snapshot.ensures.rest c.in-Ok.ensures c.conclude_verdict.ensures.moves

pub returns-in-Err-clause-moves : goal.returns-in-Err-clause-moves
returns-in-Err-clause-moves c =
    unjudged-moves c.args.book.now c.args.connection.now c.take_round-snapshot.new.connection c.tell_error.new.self _
    (sym c.take_round-snapshot.ensures.stage) c.take_round-snapshot.ensures.rest c.tell_error.ensures
