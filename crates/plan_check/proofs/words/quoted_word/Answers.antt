use Rattle.std.proofs.Common.{rules, ◌≡◌, ◌∷◌, [], ℕ, List, subst, append-nil}
use Rattle.plan_check.specs.Words.{HasQuoted}
use Rattle.plan_check.proofs.words.quoted_word.Goals as goal

-- nothing is left of the word but its closing quotes
pub returns-in-Some-strip_prefix : goal.returns-in-Some-strip_prefix
returns-in-Some-strip_prefix c =
    let after = c.in-Some-strip_prefix.after.now in
    let word = c.loop.word.items in
    let closed : c.loop.left.now ≡ 34 ∷ after = search rules in
    subst (λ (bytes : List ℕ). HasQuoted c.args.text.now bytes after) (append-nil word)
    (c.loop.invariant [] after closed)
