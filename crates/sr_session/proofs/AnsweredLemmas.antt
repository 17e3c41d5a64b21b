-- Requests answered one after another: one more at the end.
use Rattle.std.proofs.Common.{ℕ, List, [], ◌∷◌, ◌++◌, refl, sym, ap, ◌∙◌, subst, append_assoc}
use Rattle.std.proofs.lemmas.List.{append-nil}
use Rattle.sr_resp.specs.{Words}
use Rattle.sr_session.specs.Session.{AreAnswered}

module _ {S : Type 0} (Answers : S → Words → List ℕ → S → Type 0) where
  pub AreAnswered-push : (old : S) (requests : List Words) (text : List ℕ) (middle : S) (words : Words) (more : List ℕ) (new : S)
      → AreAnswered Answers old requests text middle → Answers middle words more new → AreAnswered Answers old (requests ++ words ∷ []) (text ++ more) new
  AreAnswered-push old [] text middle words more new done next =
      (more, [], new, subst (λ (s : S). Answers s words more new) done.1 next, (refl, refl), ap (λ (t : List ℕ). t ++ more) done.0 ∙ sym (append-nil more))
  AreAnswered-push old (first ∷ requests) text middle words more new done next =
      (done.0, done.1 ++ more, done.2, done.3, AreAnswered-push done.2 requests done.1 middle words more new done.4 next, ap (λ (t : List ℕ). t ++ more) done.5 ∙ append_assoc done.0 done.1 more)

  -- more requests at the end
  pub AreAnswered-append : (old : S) (requests : List Words) (text : List ℕ) (middle : S) (others : List Words) (more : List ℕ) (new : S)
      → AreAnswered Answers old requests text middle → AreAnswered Answers middle others more new → AreAnswered Answers old (requests ++ others) (text ++ more) new
  AreAnswered-append old [] text middle others more new done next =
      subst (λ (t : List ℕ). AreAnswered Answers old others (t ++ more) new) (sym done.0) (subst (λ (s : S). AreAnswered Answers s others more new) done.1 next)
  AreAnswered-append old (first ∷ requests) text middle others more new done next =
      (done.0, done.1 ++ more, done.2, done.3, AreAnswered-append done.2 requests done.1 middle others more new done.4 next, ap (λ (t : List ℕ). t ++ more) done.5 ∙ append_assoc done.0 done.1 more)
