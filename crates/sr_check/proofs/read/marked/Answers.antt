use Rattle.std.proofs.Common.{rules, ◌≡◌, ◌∷◌, ℕ, List, decimal, subst}
use Rattle.sr_check.specs.steps.Read.{HasNumber}
use Rattle.sr_check.proofs.ReadLemmas.{HasNumber-line, HasNumber-digits}
use Rattle.sr_check.proofs.read.marked.Goals as goal

pub returns-in_err-line-clause-none : goal.returns-in_err-line-clause-none
returns-in_err-line-clause-none c = rw c.from_residual-in_err-line.ensures (λ n after has.
    let first = c.in_ok-first.first.now in
    let text = c.in_ok-first.text.now in
    let is : c.args.bytes.now ≡ first ∷ text = search rules in
    c.in_err-line.ensures.none (decimal n) after
    (HasNumber-line text first c.args.mark n after (subst (λ (b : List ℕ). HasNumber b c.args.mark n after) is has)))

pub returns-in_err-n-clause-none : goal.returns-in_err-n-clause-none
returns-in_err-n-clause-none c = rw c.from_residual-in_err-n.ensures (λ n after has.
    let first = c.in_ok-first.first.now in
    let text = c.in_ok-first.text.now in
    let is : c.args.bytes.now ≡ first ∷ text = search rules in
    c.in_err-n.ensures.none n has.small
    (HasNumber-digits text c.in_ok-line.line.now c.in_ok-line.after.now first c.args.mark n after
    c.in_ok-line.ensures.found (subst (λ (b : List ℕ). HasNumber b c.args.mark n after) is has)))
