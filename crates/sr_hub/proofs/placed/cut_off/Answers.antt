use Rattle.std.proofs.Common.{◌≡◌, false, ap, refl, sym, ◌∙◌}
use Rattle.sr_hub.specs.Line.{ConnectionState, is_ended}
use Rattle.sr_hub.specs.steps.Telling.{ended, unfed}
use Rattle.sr_hub.proofs.placed.cut_off.Goals as goal

pub returns-then-has_ended-clause-untaken : goal.returns-then-has_ended-clause-untaken
returns-then-has_ended-clause-untaken c =
    ended refl (ap (λ (l : ConnectionState). is_ended l.stage) (sym c.connection.view_is) ∙ sym c.has_ended.ensures ∙ c.if-has_ended.true) refl

pub returns-clause-untaken : goal.returns-clause-untaken
returns-clause-untaken c =
    let goes : is_ended c.args.connection.now.stage ≡ false = ap (λ (l : ConnectionState). is_ended l.stage) (sym c.connection.view_is) ∙ sym c.has_ended.ensures ∙ c.if-has_ended.false in
    unfed c.args.connection.now.requests.looked refl goes c.pass_to.ensures
