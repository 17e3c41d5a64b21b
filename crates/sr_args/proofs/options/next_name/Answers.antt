use Rattle.std.proofs.Common.{◌≡◌, List, [], ◌∷◌, false, sym, ap, ◌∙◌, subst}
use Rattle.std.proofs.lemmas.Bool.{false≢true}
use Rattle.sr_args.specs.declared.name.OptionName.{OptionName}
use Rattle.sr_args.specs.declared.name.OptionSet.{OptionSet}
use Rattle.sr_args.specs.Name.{IsSameName, option_text, is_of}
use Rattle.sr_args.specs.FormWord.{Word}
use Rattle.sr_args.specs.Options.{IsUnnamed}
use Rattle.sr_args.proofs.OptionLemmas.{name-one}
use Rattle.sr_args.proofs.options.next_name.Goals as goal

first_one : (words left rest : List Word) (seen word : Word) → words ≡ seen ∷ left → words ≡ word ∷ rest → seen ≡ word
first_one words left rest seen word e f = cc

unnamed_first : (set : OptionSet) (words left : List Word) (seen : Word) → words ≡ seen ∷ left → IsUnnamed set seen → (word : Word) (rest : List Word) → words ≡ word ∷ rest → IsUnnamed set word
unnamed_first set words left seen e u word rest f = subst (λ (w : Word). IsUnnamed set w) (first_one words left rest seen word e f) u

-- a word that names an option outside the set names none within it
unnamed_by : (set : OptionSet) (word : Word) (name : OptionName) → IsSameName word (option_text name) → is_of set name ≡ false → IsUnnamed set word
unnamed_by set word name same out other of is = false≢true (sym out ∙ ap (is_of set) (name-one word name other same is) ∙ of)

no_word : (words left : List Word) (word : Word) → words ≡ [] → words ≡ word ∷ left → ⊥
no_word words left word e f = cc

pub returns-in_err-peek-clause-none : goal.returns-in_err-peek-clause-none
returns-in_err-peek-clause-none c =
    rw c.from_residual.ensures (λ word rest e. absurd (no_word c.args.words.now rest word c.in_err-peek.ensures.none e))

pub returns-in_err-name-clause-none : goal.returns-in_err-name-clause-none
returns-in_err-name-clause-none c =
    let left = c.in_ok-peek.ensures.some in
    rw c.from_residual-in_err-name.ensures (unnamed_first c.args.set c.args.words.now left.0 c.in_ok-peek.field-0.now left.1 (λ name of. c.in_err-name.ensures.none name))

pub returns-then-not-has_option-clause-none : goal.returns-then-not-has_option-clause-none
returns-then-not-has_option-clause-none c =
    let left = c.in_ok-peek.ensures.some in
    let word = c.in_ok-peek.field-0.now in
    unnamed_first c.args.set c.args.words.now left.0 word left.1 (unnamed_by c.args.set word c.in_ok-name.name c.in_ok-name.ensures.found (sym c.if-not-has_option.ensures))

pub returns-in_err-next-clause-none : goal.returns-in_err-next-clause-none
returns-in_err-next-clause-none c =
    rw c.from_residual-in_err-next.ensures (λ word rest e. absurd (no_word c.args.words.now rest word c.in_err-next.ensures.none e))

pub returns-clause-found : goal.returns-clause-found
returns-clause-found c =
    let left = c.in_ok-peek.ensures.some in
    let same = first_one c.args.words.now left.0 c.next.new.self c.in_ok-peek.field-0.now c.in_ok-next.field-0.now left.1 c.in_ok-next.ensures.some in
    (c.in_ok-next.field-0.now, c.in_ok-next.ensures.some, subst (λ (word : Word). IsSameName word (option_text c.in_ok-name.name)) same c.in_ok-name.ensures.found)
