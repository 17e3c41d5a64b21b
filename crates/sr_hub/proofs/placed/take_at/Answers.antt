use Rattle.std.proofs.Common.{refl, sym}
use Rattle.sr_hub.specs.steps.Calls.{is_gone}
use Rattle.sr_hub.proofs.HubLemmas.{refuses-at, takes-at}
use Rattle.sr_hub.proofs.placed.take_at.Goals as goal

pub returns-in_default-clause-err : goal.returns-in_default-clause-err
returns-in_default-clause-err c = is_gone refl (sym c.in_default.ensures.value) refl

pub returns-clause-ok : goal.returns-clause-ok
returns-clause-ok c =
    takes-at c.args.connections.now c.args.book.now c.take_piece.new.book c.args.token c.in-Some.connection.now c.take_piece.new.connection c.in-Some.ensures.value
    c.args.piece.now c.take_piece.result c.take_piece.ensures.goes c.take_piece.ensures.ok c.take_piece.ensures.rest

pub returns-clause-err : goal.returns-clause-err
returns-clause-err c =
    refuses-at c.args.connections.now c.args.book.now c.take_piece.new.book c.args.token c.in-Some.connection.now c.take_piece.new.connection c.in-Some.ensures.value
    c.take_piece.result c.take_piece.ensures.err c.take_piece.ensures.stays
