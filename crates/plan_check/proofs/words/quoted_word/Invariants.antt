use Rattle.std.proofs.Common.{◌++◌, ℕ, List}
use Rattle.plan_check.specs.Words.{HasQuoted}
use Rattle.plan_check.proofs.words.quoted_word.Given as goal

-- whatever is spelled by what is left is spelled by the text, after the word so far
abbrev pub invariant-loop : goal.invariant-loop
invariant-loop l =
    (bytes after : List ℕ) → HasQuoted l.left bytes after → HasQuoted l.fn.text (l.word.items ++ bytes) after
