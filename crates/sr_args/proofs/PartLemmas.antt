-- The parts of an option, as they are read one after the other.
use Rattle.std.proofs.Common.{◌≡◌, ◌∙◌, List, [], ◌∷◌, ◌++◌, Bool, true, false, Option, Some, None, map, refl, sym, ap, subst}
use Rattle.sr_args.specs.declared.number.CountRange.{CountRange}
use Rattle.sr_args.specs.declared.number.CountRange.TheVariants.{Any, FromOne}
use Rattle.sr_args.specs.declared.name.OptionName.{OptionName}
use Rattle.sr_args.specs.declared.name.Measure.{Measure}
use Rattle.sr_args.specs.declared.name.Sign.{Sign}
use Rattle.sr_args.specs.declared.name.OptionName.TheVariants as options
use Rattle.sr_args.specs.declared.name.OptionSet.{OptionSet}
use Rattle.sr_args.specs.FormWord.{Word, FormWord, Stands, Fits, any}
use Rattle.sr_args.specs.Options.{TrimReading, Written, flag, named_group, trimming, sign_places, bound_place, limit_places, count_place, first_name, operand_places, IsOptionFit}
use Rattle.sr_args.specs.steps.Options.{Begins, BeginsNone, IsOptionEnd, IsOptionNamed, IsAny, IsSigned, IsLimitOf, IsUnlimitedAfter, IsTrimBy, IsTrimEnd, signed_places, trim_operands}
use Rattle.sr_args.proofs.OptionLemmas.{same_trim, trim_with, trim_name-one, operands-one, Fits-texts}

-- a trim is a signed bound and a limit
parts : (by : Measure) (sign : Option Sign) (bound : Word) (limit : Option Word) (places : List FormWord) → trim_operands (trim_with by sign bound limit) ++ places ≡ signed_places by (sign, bound) ++ (limit_places limit ++ places)
parts by None bound limit places = refl
parts by (Some sign) bound limit places = refl

trim-parts : (trim : TrimReading) (places : List FormWord) → trim_operands trim ++ places ≡ signed_places trim.by (trim.sign, trim.bound) ++ (limit_places trim.limit ++ places)
trim-parts trim places = parts trim.by trim.sign trim.bound trim.limit places

fits-parts : (by : Measure) (words : List Word) (trim : TrimReading) (places : List FormWord) → trim.by ≡ by → Fits words (trim_operands trim ++ places) → Fits words (signed_places by (trim.sign, trim.bound) ++ (limit_places trim.limit ++ places))
fits-parts by words trim places e f =
    subst (λ (m : Measure). Fits words (signed_places m (trim.sign, trim.bound) ++ (limit_places trim.limit ++ places))) e (subst (λ (ps : List FormWord). Fits words ps) (trim-parts trim places) f)

pub Begins-trim : (by : Measure) (sign : Option Sign) (bound : Word) (limit : Option Word) (words behind last : List Word) → Begins (signed_places by) IsSigned IsAny words (sign, bound) behind → Begins limit_places (IsLimitOf sign) IsUnlimitedAfter behind limit last → Begins trim_operands (IsTrimBy by) IsTrimEnd words (trim_with by sign bound limit) last
Begins-trim by sign bound limit words behind last s l = record {
  right = record { by_is = refl; fit = record { sign_first = s.right.sign_first; limit_nearly = l.right } };
  fits = λ places f. subst (λ (ps : List FormWord). Fits words ps) (sym (trim-parts (trim_with by sign bound limit) places)) (s.fits (limit_places limit ++ places) (l.fits places f));
  only = λ other places r u f.
      let signed = s.only (other.sign, other.bound) (limit_places other.limit ++ places) (record { sign_first = r.fit.sign_first }) tt (fits-parts by words other places r.by_is f) in
      let same_sign : other.sign ≡ sign = ap (λ (p : Option Sign × Word). p.0) signed.0 in
      let same_bound : other.bound ≡ bound = ap (λ (p : Option Sign × Word). p.1) signed.0 in
      let nearly : IsLimitOf sign other.limit = subst (λ (x : Option Sign). IsLimitOf x other.limit) same_sign r.fit.limit_nearly in
      let limited = l.only other.limit places nearly u signed.1 in
      (same_trim other (trim_with by sign bound limit) r.by_is same_sign same_bound limited.0, limited.1);
}

pub BeginsNone-unsigned : (by : Measure) (words : List Word) → BeginsNone (signed_places by) IsSigned IsAny words → BeginsNone trim_operands (IsTrimBy by) IsTrimEnd words
BeginsNone-unsigned by words none other places r u f =
    none (other.sign, other.bound) (limit_places other.limit ++ places) (record { sign_first = r.fit.sign_first }) tt (fits-parts by words other places r.by_is f)

pub BeginsNone-limit : (by : Measure) (sign : Option Sign) (bound : Word) (words behind : List Word) → Begins (signed_places by) IsSigned IsAny words (sign, bound) behind → BeginsNone limit_places (IsLimitOf sign) IsUnlimitedAfter behind → BeginsNone trim_operands (IsTrimBy by) IsTrimEnd words
BeginsNone-limit by sign bound words behind s none other places r u f =
    let signed = s.only (other.sign, other.bound) (limit_places other.limit ++ places) (record { sign_first = r.fit.sign_first }) tt (fits-parts by words other places r.by_is f) in
    let same_sign : other.sign ≡ sign = ap (λ (p : Option Sign × Word). p.0) signed.0 in
    let nearly : IsLimitOf sign other.limit = subst (λ (x : Option Sign). IsLimitOf x other.limit) same_sign r.fit.limit_nearly in
    none other.limit places nearly u signed.1

-- fewer than two words do not go on with GROUP
no_group-fits : (words : List Word) (group consumer : Word) (places : List FormWord) → ((group consumer : Word) (rest : List Word) → words ≡ group ∷ consumer ∷ rest → ⊥) → Fits words (any group ∷ any consumer ∷ places) → ⊥
no_group-fits [] group consumer places none f = f
no_group-fits (w ∷ []) group consumer places none f = f.1
no_group-fits (w ∷ v ∷ words) group consumer places none f = none w v words refl

no_group-at : (words : List Word) (o : Written) (places : List FormWord) → first_name o ≡ options.Group → ((group consumer : Word) (rest : List Word) → words ≡ group ∷ consumer ∷ rest → ⊥) → Fits words (operand_places o ++ places) → ⊥
no_group-at words (named_group group consumer) places e none f = no_group-fits words group consumer places none f
no_group-at words o places e none f = cc

pub BeginsNone-group : (set : OptionSet) (words : List Word) → ((group consumer : Word) (rest : List Word) → words ≡ group ∷ consumer ∷ rest → ⊥) → BeginsNone operand_places (IsOptionNamed set options.Group) IsOptionEnd words
BeginsNone-group set words none other places r u f =
    no_group-at words other places r.name_is none f

-- an option that its operands alone tell: another one that the words go on with is this one
Begins-operands : (set : OptionSet) (o : Written) (words rest : List Word) → IsOptionFit set o → ((ps : List FormWord) → IsOptionEnd o ps) → ((ps : List FormWord) → Fits rest ps → Fits words (operand_places o ++ ps)) → ((ps : List FormWord) → Fits words (operand_places o ++ ps) → Fits rest ps) → Begins operand_places (IsOptionNamed set (first_name o)) IsOptionEnd words o rest
Begins-operands set o words rest fit last forth back = record {
  right = record { name_is = refl; fit = fit };
  fits = forth;
  only = λ other places r u f.
      let one = operands-one set words other o places (map any rest) r.name_is r.fit fit u (last (map any rest)) f (forth (map any rest) (Fits-texts rest)) in
      (one.0, back places (subst (λ (x : Written). Fits words (operand_places x ++ places)) one.0 f));
}

pub Begins-bare : (set : OptionSet) (o : Written) (words : List Word) → IsOptionFit set o → ((ps : List FormWord) → IsOptionEnd o ps) → operand_places o ≡ [] → Begins operand_places (IsOptionNamed set (first_name o)) IsOptionEnd words o words
Begins-bare set o words fit last bare = Begins-operands set o words words fit last (λ ps f. rw bare f) (λ ps f. rw bare at f)

pub Begins-word : (set : OptionSet) (o : Written) (place : FormWord) (words rest : List Word) (word : Word) → words ≡ word ∷ rest → IsOptionFit set o → ((ps : List FormWord) → IsOptionEnd o ps) → operand_places o ≡ place ∷ [] → Stands word place → Begins operand_places (IsOptionNamed set (first_name o)) IsOptionEnd words o rest
Begins-word set o place words rest word e fit last are stands =
    Begins-operands set o words rest fit last (λ ps f. rw (e, are) (stands, f)) (λ ps f. (rw (e, are) at f).1)

pub Begins-group : (set : OptionSet) (words rest : List Word) (group consumer : Word) → words ≡ group ∷ consumer ∷ rest → Begins operand_places (IsOptionNamed set options.Group) IsOptionEnd words (named_group group consumer) rest
Begins-group set words rest group consumer e =
    Begins-operands set (named_group group consumer) words rest tt (λ ps. tt) (λ ps f. rw e (refl, (refl, f))) (λ ps f. (rw e at f).1.1)

pub count-stands : (range : CountRange) (word : Word) → Stands word (count_place range word)
count-stands Any word = refl
count-stands FromOne word = refl

-- a trim is read by the words after its name
trimming-only : (set : OptionSet) (by : Measure) (words rest : List Word) (trim : TrimReading) → Begins trim_operands (IsTrimBy by) IsTrimEnd words trim rest → (other : Written) (places : List FormWord) → IsOptionNamed set (options.Trim by) other → IsOptionEnd other places → Fits words (operand_places other ++ places) → (other ≡ trimming trim) × Fits rest places
trimming-only set by words rest trim b (trimming t) places r u f =
    let one = b.only t places (record { by_is = trim_name-one t.by by r.name_is; fit = r.fit }) u f in (ap trimming one.0, one.1)
trimming-only set by words rest trim b other places r u f = cc

pub Begins-trimming : (set : OptionSet) (by : Measure) (words rest : List Word) (trim : TrimReading) → Begins trim_operands (IsTrimBy by) IsTrimEnd words trim rest → Begins operand_places (IsOptionNamed set (options.Trim by)) IsOptionEnd words (trimming trim) rest
Begins-trimming set by words rest trim b = record {
  right = record { name_is = ap options.Trim b.right.by_is; fit = b.right.fit };
  fits = b.fits;
  only = trimming-only set by words rest trim b;
}

pub BeginsNone-trimming : (set : OptionSet) (by : Measure) (words : List Word) → BeginsNone trim_operands (IsTrimBy by) IsTrimEnd words → BeginsNone operand_places (IsOptionNamed set (options.Trim by)) IsOptionEnd words
BeginsNone-trimming set by words none (trimming t) places r u f = none t places (record { by_is = trim_name-one t.by by r.name_is; fit = r.fit }) u f
BeginsNone-trimming set by words none other places r u f = cc

-- no word is left for an option that takes one
abbrev is_bare : OptionName → Bool
is_bare (options.Flag f) = true
is_bare name = false

no_bound : (sign : Option Sign) (place : FormWord) (ps qs : List FormWord) → Fits [] ((sign_places sign ++ (place ∷ ps)) ++ qs) → ⊥
no_bound None place ps qs f = f
no_bound (Some sign) place ps qs f = f

no_word : (o : Written) (places : List FormWord) → is_bare (first_name o) ≡ false → Fits [] (operand_places o ++ places) → ⊥
no_word (flag f) places takes fits = cc
no_word (trimming t) places takes fits = no_bound t.sign (bound_place t.by t.bound) (limit_places t.limit) places fits
no_word o places takes fits = fits

pub BeginsNone-word : (set : OptionSet) (name : OptionName) (words : List Word) → words ≡ [] → is_bare name ≡ false → BeginsNone operand_places (IsOptionNamed set name) IsOptionEnd words
BeginsNone-word set name words e takes other places r u f = no_word other places (ap is_bare r.name_is ∙ takes) (rw e at f)
