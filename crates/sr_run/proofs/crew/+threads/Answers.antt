use Rattle.std.proofs.Common.{◌≡◌, ap, ◌∙◌, subst}
use Rattle.std.specs.Prelude.{MatchResult}
use Rattle.sr_run.specs.Crews.{CrewState, HasNotWorked, HasWorked}
use Rattle.sr_run.proofs.WorkedLemmas.{halves_together}
use Rattle.sr_run.proofs.crew.+threads.Goals as goal

pub scope-returns : goal.scope-returns
scope-returns g t c =
    let told : c.in-Ok.child.promise.0.value ≡ c.captures.front = ap (λ promise. promise.0.value) c.in-Ok.ensures.ok ∙ c.of.ensures in
    let P : CrewState → Type 0 = λ crew. MatchResult c.join.result (λ finished. HasWorked crew finished.seats.items finished.receipts.items) (HasNotWorked crew) in
    halves_together (λ finished. finished.seats.items) (λ finished. finished.receipts.items) c.captures.front c.captures.back c.join.result c.run_crew-own.result c.together.result
    c.requires.5 (subst P told c.join.ensures) c.run_crew-own.ensures c.together.ensures
