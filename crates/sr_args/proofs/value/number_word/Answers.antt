use Rattle.std.proofs.Common.{◌≡◌, List, [], ◌∷◌, ◌++◌, Option, Some, None, refl, subst}
use Rattle.sr_args.specs.declared.name.OptionName.{OptionName}
use Rattle.sr_args.specs.Name.{IsSameName, option_text}
use Rattle.sr_args.specs.FormWord.{Word, FormWord, Range, Fits}
use Rattle.sr_args.specs.Form.{IsNamedFirst, named_places}
use Rattle.sr_args.specs.steps.Numbers.{IsAnyWord, IsPastNumber}
use Rattle.sr_args.specs.steps.Options.{Begins}
use Rattle.sr_args.proofs.value.number_word.Goals as goal

no_word : (words left : List Word) (word : Word) → words ≡ [] → words ≡ word ∷ left → ⊥
no_word words left word e f = cc

-- the next word does not name the option
past : (name : OptionName) (words left : List Word) (seen : Word) → words ≡ seen ∷ left → (IsSameName seen (option_text name) → ⊥) → IsPastNumber name None words
past name words left seen e differs word rest f same = let one : word ≡ seen = cc in differs (subst (λ (w : Word). IsSameName w (option_text name)) one same)

-- so the option is left out
left_out : (name : OptionName) (range : Range) (words : List Word) (other : Option Word) (places : List FormWord) → IsPastNumber name None words → Fits words (named_places name range other ++ places) → (other ≡ None) × Fits words places
left_out name range words None places p f = (refl, f)
left_out name range [] (Some number) places p f = absurd f
left_out name range (word ∷ words) (Some number) places p f = absurd (p word words refl f.0)

Begins-left_out : (name : OptionName) (words : List Word) → IsPastNumber name None words → (range : Range) → Begins (named_places name range) IsAnyWord (IsNamedFirst name) words None words
Begins-left_out name words p range =
    record { right = tt; fits = λ places f. f; only = λ other places r u f. left_out name range words other places p f }

pub returns-in_default-clause-found : goal.returns-in_default-clause-found
returns-in_default-clause-found c =
    let words = c.args.words.now in
    Begins-left_out c.args.name words (λ word rest e. absurd (no_word words rest word c.in_default.ensures.none e))

pub returns-then-not-is_named-clause-found : goal.returns-then-not-is_named-clause-found
returns-then-not-is_named-clause-found c =
    let left = c.in-Some.ensures.some in
    let words = c.args.words.now in
    Begins-left_out c.args.name words (past c.args.name words left.0 c.in-Some.word.now left.1 (c.if-not-is_named.ensures.no refl))

pub returns-then-not-is_named-clause-past : goal.returns-then-not-is_named-clause-past
returns-then-not-is_named-clause-past c =
    let left = c.in-Some.ensures.some in
    past c.args.name c.args.words.now left.0 c.in-Some.word.now left.1 (c.if-not-is_named.ensures.no refl)

pub returns-in_err-next-clause-none : goal.returns-in_err-next-clause-none
returns-in_err-next-clause-none c =
    let left = c.in-Some.ensures.some in
    rw c.from_residual.ensures (λ range other places r u f. no_word c.args.words.now left.0 c.in-Some.word.now c.in_err-next.ensures.none left.1)
