use Rattle.std.proofs.Common.{◌≡◌, IfSome, IsSomeAnd, Option, subst, sym}
use Rattle.sr_hub.specs.Line.{ConnectionState, wanted_of}
use Rattle.sr_hub.proofs.TimeLemmas.{timed_then}
use Rattle.sr_hub.proofs.HubLemmas.{moves-at}
use Rattle.sr_hub.proofs.MoveLemmas.{moves-then}
use Rattle.sr_hub.proofs.placed.conclude_at.Goals as goal

pub returns-clause-moves : goal.returns-clause-moves
returns-clause-moves c =
    moves-at c.args.connections.now c.args.book.now c.answer_waiting.new.book c.args.token c.in-Some.connection.now c.answer_waiting.new.connection c.in-Some.ensures.value
    (moves-then c.args.book.now c.in-Some.connection.now c.conclude_round.new.book c.conclude_round.new.connection c.answer_waiting.new.book c.answer_waiting.new.connection c.conclude_round.ensures.moves c.answer_waiting.ensures.moves)
    c.answer_waiting.ensures.rest

pub unreachable-requires : goal.unreachable-requires
unreachable-requires c =
    subst (λ (o : Option ConnectionState). IsSomeAnd o (λ line. IsSomeAnd (wanted_of line.stage) (λ shown. IfSome c.args.verdict (λ judged. judged.snapshot ≡ shown)))) (sym c.in_default.ensures.value) c.requires

pub conclude_round-requires : goal.conclude_round-requires
conclude_round-requires c =
    subst (λ (o : Option ConnectionState). IsSomeAnd o (λ line. IsSomeAnd (wanted_of line.stage) (λ shown. IfSome c.args.verdict (λ judged. judged.snapshot ≡ shown)))) (sym c.in-Some.ensures.value) c.requires

pub returns-clause-timed : goal.returns-clause-timed
returns-clause-timed c =
    timed_then c.args.moment c.args.book.now c.conclude_round.new.book c.answer_waiting.new.book c.conclude_round.ensures.timed c.answer_waiting.ensures.timed
