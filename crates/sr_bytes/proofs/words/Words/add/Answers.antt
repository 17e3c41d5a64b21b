use Rattle.std.proofs.Common.{List, ℕ, [], ◌∷◌, ◌++◌, length, sym, ap, ◌∙◌, arith}
use Rattle.std.proofs.lemmas.Result.{err_from_is_err_and}
use Rattle.sr_bytes.proofs.WordsLemmas.{words-same, words-more, words-few, IsPackedWords-more, counted-more}
use Rattle.sr_bytes.proofs.words.Words.add.Goals as goal

pub invariant_of-self : goal.invariant_of-self
invariant_of-self c = c.self.invariant ∙ sym (ap length (words-same _ _ _ c.self.inside.words c.in_err-append_word.ensures.err))

pub returns-in_err-append_word-clause-err : goal.returns-in_err-append_word-clause-err
returns-in_err-append_word-clause-err c =
    let p = err_from_is_err_and c.from_residual.result c.from_residual.ensures.1 in
    rw p.1 (words-same _ _ _ c.self.inside.words c.in_err-append_word.ensures.err ∙ c.self.view_is)

pub overflow_add-self : goal.overflow_add-self
overflow_add-self c =
    omega (arith, c.self.invariant, words-few c.self.inside.text.items c.self.inside.words, c.self.inside.text.ok, c.self.inside.text.small)

pub invariant_of-self-inside-2 : goal.invariant_of-self-inside-2
invariant_of-self-inside-2 c =
    (IsPackedWords-more c.append_word.new.out.items c.self.inside.text.items c.args.word.now c.self.inside.words c.append_word.ensures.short c.in_ok-append_word.ensures.ok, tt)

pub invariant_of-self-2 : goal.invariant_of-self-2
invariant_of-self-2 c = counted-more _ _ _ c.self.inside.words c.args.word.now _ c.self.invariant c.append_word.ensures.short c.in_ok-append_word.ensures.ok

pub returns-clause-ok : goal.returns-clause-ok
returns-clause-ok c =
    let more = words-more _ _ _ c.self.inside.words c.args.word.now c.append_word.ensures.short c.in_ok-append_word.ensures.ok in
    more ∙ ap (λ (l : List (List ℕ)). l ++ c.args.word.now ∷ []) c.self.view_is
