use Rattle.std.proofs.Common.{rules, ◌≡◌, ◌∷◌, List, ℕ, subst}
use Rattle.sr_resp.specs.Reply.{Part}
use Rattle.sr_resp.specs.steps.Decoding.{HasPart}
use Rattle.sr_resp.proofs.DecodingLemmas.{none-weaker, no_part-line, HasForm-part}
use Rattle.sr_resp.proofs.decoding.first_piece.Goals as goal

pub returns-in_err-line-clause-none : goal.returns-in_err-line-clause-none
returns-in_err-line-clause-none c = rw c.from_residual-in_err-line.ensures (λ part others has.
    let mark = c.in_ok-mark.mark.now in
    let text = c.in_ok-mark.text.now in
    let is : c.args.bytes.now ≡ mark ∷ text = search rules in
    no_part-line text mark part others c.in_err-line.ensures.none (subst (λ (b : List ℕ). HasPart b part others) is has))

pub returns-clause-none : goal.returns-clause-none
returns-clause-none c =
    let mark = c.in_ok-mark.mark.now in
    let text = c.in_ok-mark.text.now in
    let is : c.args.bytes.now ≡ mark ∷ text = search rules in
    let form = λ (part : Part) (others : List ℕ) (has : HasPart c.args.bytes.now part others).
    HasForm-part text mark c.in_ok-line.line.now c.in_ok-line.after.now part others c.in_ok-line.ensures.found (subst (λ (b : List ℕ). HasPart b part others) is has) in
    none-weaker c.piece_of.result (λ none part others has. none part others (form part others has)) c.piece_of.ensures.none
