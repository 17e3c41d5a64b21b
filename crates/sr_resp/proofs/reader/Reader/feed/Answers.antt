use Rattle.std.proofs.Common.{◌∙◌, refl, sym, ap}
use Rattle.sr_resp.specs.Stream.{Progress, Advances}
use Rattle.sr_resp.proofs.StreamLemmas.{Sorts-advances}
use Rattle.sr_resp.proofs.reader.Reader.feed.Goals as goal
use Rattle.sr_resp.proofs.reader.Reader.feed.Goals.{then-self-2, else-self-2}

advances : (c : goal.Joined-self-2) → Advances c.args.self.now c.take_in.new.self c.args.piece.now
advances c = Sorts-advances _ _ c.args.piece.now (sym (ap (λ (p : Progress). p.failed) c.self.view_is) ∙ c.if-self.false) c.in_ok-take_in.ensures.ok

pub returns-clause-protocol : goal.returns-clause-protocol
returns-clause-protocol c = λ is.
    elim c.if-self-2.branch [
      | then-self-2 w ↦ (sym (ap (λ (p : Progress). p.failed) c.self-2.view_is) ∙ w.if-self-2.true, advances c)
      | else-self-2 w ↦ absurd cc
    ]

pub returns-clause-advances : goal.returns-clause-advances
returns-clause-advances c =
    elim c.if-self-2.branch [
      | then-self-2 w ↦ rw w.result-is tt
      | else-self-2 w ↦ rw w.result-is (advances c)
    ]

pub returns-then-self-clause-ok : goal.returns-then-self-clause-ok
returns-then-self-clause-ok c = tt

pub returns-then-self-clause-failed : goal.returns-then-self-clause-failed
returns-then-self-clause-failed c = λ _. (refl, refl)
