use Rattle.std.proofs.Common.{[], ◌∷◌, ◌++◌, List, sym, ap, ◌∙◌, subst, append_assoc}
use Rattle.sr_resp.specs.{Words, Progress}
use Rattle.sr_session.specs.steps.Asked.{AreAsked}
use Rattle.sr_session.proofs.AskedLemmas.{AreAsked-push, IsAsked-read, with_waiting}
use Rattle.sr_session.proofs.run.read_waiting.Goals as goal

pub loop-words-preserved : goal.loop-words-preserved
loop-words-preserved c =
    let done = c.loop-words.invariant.0 in
    let words = c.in-Some.words in
    let next = c.next_request.new.self in (
      done ++ words ∷ [],
      subst (AreAsked (done ++ words ∷ [])) (sym c.in_ok-push.ensures.items) (AreAsked-push done c.loop-words.asked.items words c.read_call.result c.loop-words.invariant.1 (IsAsked-read words c.read_call.result c.read_call.ensures.ok c.read_call.ensures.err)),
      c.loop-words.invariant.2
          ∙ ap (λ (p : Progress). with_waiting (done ++ p.waiting) p) c.in-Some.ensures.some
          ∙ ap (λ (l : List Words). with_waiting l next) (sym (append_assoc done (words ∷ []) next.waiting)),
    )
