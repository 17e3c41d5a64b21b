use Rattle.std.proofs.Common.{◌≡◌, false, ap, refl, sym, ◌∙◌}
use Rattle.sr_hub.specs.Line.{ConnectionState, is_ended}
use Rattle.sr_hub.specs.steps.Telling.{ended}
use Rattle.sr_hub.proofs.HubLemmas.{fed-takes, unfed-after}
use Rattle.sr_hub.proofs.placed.take_piece.Goals as goal

pub returns-then-has_ended-clause-err : goal.returns-then-has_ended-clause-err
returns-then-has_ended-clause-err c =
    ended refl (ap (λ (l : ConnectionState). is_ended l.stage) (sym c.connection.view_is) ∙ sym c.has_ended.ensures ∙ c.if-has_ended.true) refl

pub returns-in-Ok-clause-ok : goal.returns-in-Ok-clause-ok
returns-in-Ok-clause-ok c =
    let goes : is_ended c.args.connection.now.stage ≡ false = ap (λ (l : ConnectionState). is_ended l.stage) (sym c.connection.view_is) ∙ sym c.has_ended.ensures ∙ c.if-has_ended.false in
    fed-takes c.args.piece.now c.args.book.now c.args.connection.now c.feed.new.self c.answer_waiting.new.book c.answer_waiting.new.connection goes c.in-Ok.ensures.ok c.answer_waiting.ensures.moves

pub returns-in-Err-clause-err : goal.returns-in-Err-clause-err
returns-in-Err-clause-err c =
    let goes : is_ended c.args.connection.now.stage ≡ false = ap (λ (l : ConnectionState). is_ended l.stage) (sym c.connection.view_is) ∙ sym c.has_ended.ensures ∙ c.if-has_ended.false in
    unfed-after c.args.connection.now c.feed.new.self c.pass_to.new.self c.in-Err.ensures.err c.pass_to.ensures goes
