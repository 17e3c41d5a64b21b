use Rattle.std.proofs.Common.{◌≡◌, List, ◌++◌, Option, Some, None, inl, inr, refl, sym, subst, rules}
use Rattle.sr_args.specs.declared.name.OptionName.TheVariants.{Limit}
use Rattle.sr_args.specs.declared.name.Sign.{Sign}
use Rattle.sr_args.specs.declared.name.Sign.TheVariants.{Nearly}
use Rattle.sr_args.specs.FormWord.{Word, FormWord, nat, Fits}
use Rattle.sr_args.specs.Form.{IsNamedFirst, named_places}
use Rattle.sr_args.specs.Options.{limit_places}
use Rattle.sr_args.specs.steps.Numbers.{IsAnyWord}
use Rattle.sr_args.specs.steps.Options.{Begins, BeginsNone, IsLimitOf, IsUnlimited, IsUnlimitedAfter}
use Rattle.sr_args.proofs.options.limit_word.Goals as goal

-- a limit is an option with a number
places-limit : (limit : Option Word) → named_places Limit nat limit ≡ limit_places limit
places-limit None = refl
places-limit (Some word) = refl

fits-limit : (words : List Word) (limit : Option Word) (places : List FormWord) → Fits words (limit_places limit ++ places) → Fits words (named_places Limit nat limit ++ places)
fits-limit words limit places f = subst (λ (ps : List FormWord). Fits words (ps ++ places)) (sym (places-limit limit)) f

named_first : (limit : Option Word) (places : List FormWord) → IsUnlimited places → IsNamedFirst Limit limit places
named_first None places u = record { unnamed = λ word words f same. u.unnamed word words same f }
named_first (Some word) places u = tt

Begins-limit : (sign : Option Sign) (limit : Option Word) (words rest : List Word) → Begins (named_places Limit nat) IsAnyWord (IsNamedFirst Limit) words limit rest → IsLimitOf sign limit → Begins limit_places (IsLimitOf sign) IsUnlimitedAfter words limit rest
Begins-limit sign limit words rest b right = record {
  right = right;
  fits = λ places f. subst (λ (ps : List FormWord). Fits words (ps ++ places)) (places-limit limit) (b.fits places f);
  only = λ other places r u f. b.only other places tt (named_first other places u) (fits-limit words other places f);
}

BeginsNone-no_number : (sign : Option Sign) (words : List Word) → BeginsNone (named_places Limit nat) IsAnyWord (IsNamedFirst Limit) words → BeginsNone limit_places (IsLimitOf sign) IsUnlimitedAfter words
BeginsNone-no_number sign words none other places r u f = none other places tt (named_first other places u) (fits-limit words other places f)

no_limit : (sign : Option Sign) (word : Word) (other : Option Word) → (sign ≡ Some Nearly → ⊥) → other ≡ Some word → IsLimitOf sign other → ⊥
no_limit sign word other exact e (inl none) = cc
no_limit sign word other exact e (inr nearly) = exact nearly

BeginsNone-exact : (sign : Option Sign) (word : Word) (words rest : List Word) → Begins (named_places Limit nat) IsAnyWord (IsNamedFirst Limit) words (Some word) rest → (sign ≡ Some Nearly → ⊥) → BeginsNone limit_places (IsLimitOf sign) IsUnlimitedAfter words
BeginsNone-exact sign word words rest b exact other places r u f =
    no_limit sign word other exact (b.only other places tt (named_first other places u) (fits-limit words other places f)).0 r

pub returns-in_err-word-clause-none : goal.returns-in_err-word-clause-none
returns-in_err-word-clause-none c = rw c.from_residual.ensures (BeginsNone-no_number c.args.sign c.args.words.now (c.in_err-word.ensures.none nat))

pub returns-in_default-clause-found : goal.returns-in_default-clause-found
returns-in_default-clause-found c = Begins-limit c.args.sign None c.args.words.now c.number_word.new.words (rw c.in_default.is at (c.in_ok-word.ensures.found nat)) (inl refl)

pub returns-in_default-sign-clause-none : goal.returns-in_default-sign-clause-none
returns-in_default-sign-clause-none c =
    let exact : c.args.sign ≡ Some Nearly → ⊥ = search rules in
    BeginsNone-exact c.args.sign c.in-Some.word.now c.args.words.now c.number_word.new.words (rw c.in-Some.is at (c.in_ok-word.ensures.found nat)) exact

pub returns-clause-found : goal.returns-clause-found
returns-clause-found c =
    let nearly : c.args.sign ≡ Some Nearly = search rules in
    Begins-limit c.args.sign (Some c.in-Some.word.now) c.args.words.now c.number_word.new.words (rw c.in-Some.is at (c.in_ok-word.ensures.found nat)) (inr nearly)
