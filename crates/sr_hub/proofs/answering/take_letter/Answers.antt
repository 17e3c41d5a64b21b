use Rattle.std.proofs.Common.{ap}
use Rattle.sr_hub.specs.Line.{ConnectionState, last_text}
use Rattle.sr_hub.proofs.MoveLemmas.{cut_off-moves, lettered-moves, moves-none}
use Rattle.sr_hub.proofs.answering.take_letter.Goals as goal

pub returns-then-not-has_letter-clause-moves : goal.returns-then-not-has_letter-clause-moves
returns-then-not-has_letter-clause-moves c = moves-none c.args.book.now c.args.connection.now

pub returns-in-Ok-Some-clause-moves : goal.returns-in-Ok-Some-clause-moves
returns-in-Ok-Some-clause-moves c =
    lettered-moves c.args.book.now c.connection.inside.session c.args.connection.now c.tell.new.self c.in-Ok-Some.letter c.legal.ensures (ap (λ (line : ConnectionState). line.session) c.connection.view_is) c.requires
    (let found = c.in-Ok-Some.field-0-is in let is = c.in-Ok-Some.ensures in cc) c.tell.ensures

pub returns-in-Err-clause-moves : goal.returns-in-Err-clause-moves
returns-in-Err-clause-moves c = cut_off-moves c.args.book.now c.args.connection.now c.pass_to.new.self (ap last_text c.requires) c.pass_to.ensures
