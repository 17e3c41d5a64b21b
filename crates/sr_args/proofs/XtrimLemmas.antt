-- The words of XTRIM are its key and a trim.
use Rattle.std.proofs.Common.{◌≡◌, List, [], ◌∷◌, ◌++◌, refl, sym, append-nil, subst}
use Rattle.sr_args.specs.declared.call.Trim.{Trim}
use Rattle.sr_args.specs.declared.call.Call.TheVariants.{Xtrim}
use Rattle.sr_args.specs.declared.name.Measure.{Measure}
use Rattle.sr_args.specs.declared.name.OptionName.TheVariants as names
use Rattle.sr_args.specs.Name.{IsSameName, option_text}
use Rattle.sr_args.specs.FormWord.{Word, FormWord, Fits, option}
use Rattle.sr_args.specs.Form.{Reading, Reads, places}
use Rattle.sr_args.specs.Options.{TrimReading, IsTrim}
use Rattle.sr_args.specs.commands.Xtrim.{form, call}
use Rattle.sr_args.specs.steps.Gives.{GivesCall}
use Rattle.sr_args.specs.steps.Options.{Begins, BeginsNone, IsTrimBy, IsTrimEnd, IsUnlimited, trim_operands}
use Rattle.sr_args.proofs.OptionLemmas.{trim_name-one, name-one}

nothing_more : IsUnlimited []
nothing_more = record { unnamed = λ word words same f. f }

-- the words as far as they are known
fits-at : (words known : List Word) (reading : Reading form) → words ≡ known → Reads form words reading → Fits known (places form reading)
fits-at words known reading e r = subst (λ (ws : List Word). Fits ws (places form reading)) e r.fits

-- the trim of a reading, after the name of its measure
record IsTrimLeft (by : Measure) (left : List Word) : Type 0 where
  pub trim : TrimReading
  pub right : IsTrimBy by trim
  pub fits : Fits left (trim_operands trim ++ [])

trim_left : (words : List Word) (key : Word) (rest : List Word) (word : Word) (left : List Word) (by : Measure) → words ≡ key ∷ rest → rest ≡ word ∷ left → IsSameName word (option_text (names.Trim by)) → (reading : Reading form) → Reads form words reading → IsTrimLeft by left
trim_left words key rest word left by e f same reading r =
    let fits = fits-at words (key ∷ rest) reading e r in
    let known : Fits (key ∷ (word ∷ left)) (places form reading) = subst (λ (ws : List Word). Fits (key ∷ ws) (places form reading)) f fits in
    record {
      trim = reading.1;
      right = record { by_is = trim_name-one reading.1.by by (name-one word (names.Trim reading.1.by) (names.Trim by) known.1.0 same); fit = r.fit };
      fits = subst (λ (ps : List FormWord). Fits left ps) (sym (append-nil (trim_operands reading.1))) known.1.1;
    }

pub xtrim-no_trim : (words : List Word) (key : Word) (rest : List Word) (word : Word) (left : List Word) (by : Measure) → words ≡ key ∷ rest → rest ≡ word ∷ left → IsSameName word (option_text (names.Trim by)) → BeginsNone trim_operands (IsTrimBy by) IsTrimEnd left → (reading : Reading form) → Reads form words reading → ⊥
xtrim-no_trim words key rest word left by e f same none reading r =
    let t = trim_left words key rest word left by e f same reading r in
    none t.trim [] t.right nothing_more t.fits

no_words : (words : List Word) → Fits words [] → words ≡ []
no_words [] f = refl
no_words (word ∷ words) f = absurd f

pub xtrim-word_left : (words : List Word) (key : Word) (rest : List Word) (word : Word) (left : List Word) (by : Measure) (trim : TrimReading) (last : List Word) → words ≡ key ∷ rest → rest ≡ word ∷ left → IsSameName word (option_text (names.Trim by)) → Begins trim_operands (IsTrimBy by) IsTrimEnd left trim last → (last ≡ [] → ⊥) → (reading : Reading form) → Reads form words reading → ⊥
xtrim-word_left words key rest word left by trim last e f same b some reading r =
    let t = trim_left words key rest word left by e f same reading r in
    some (no_words last (b.only t.trim [] t.right nothing_more t.fits).1)

pub xtrim-reads : (words : List Word) (key : Word) (rest : List Word) (word : Word) (left : List Word) (by : Measure) (trim : TrimReading) (last : List Word) → words ≡ key ∷ rest → rest ≡ word ∷ left → IsSameName word (option_text (names.Trim by)) → Begins trim_operands (IsTrimBy by) IsTrimEnd left trim last → last ≡ [] → Reads form words (key, trim)
xtrim-reads words key rest word left by trim last e f same b none =
    let nil : Fits last [] = subst (λ (ws : List Word). Fits ws []) (sym none) tt in
    let operands : Fits left (trim_operands trim) = subst (λ (ps : List FormWord). Fits left ps) (append-nil (trim_operands trim)) (b.fits [] nil) in
    let name : IsSameName word (option_text (names.Trim trim.by)) = subst (λ (m : Measure). IsSameName word (option_text (names.Trim m))) (sym b.right.by_is) same in
    let here : Fits rest (option (names.Trim trim.by) ∷ trim_operands trim) = subst (λ (ws : List Word). Fits ws (option (names.Trim trim.by) ∷ trim_operands trim)) (sym f) (name, operands) in
    record {
      fits = subst (λ (ws : List Word). Fits ws (places form (key, trim))) (sym e) (refl, here);
      fit = b.right.fit;
    }

pub xtrim-gives : (words : List Word) (key copy : Word) (reading : TrimReading) (trim : Trim) → Reads form words (key, reading) → copy ≡ key → IsTrim reading trim → GivesCall form call words (Xtrim (record { key = copy; trim = trim }))
xtrim-gives words key copy reading trim r same is_trim =
    record { reading = (key, reading); reads = r; values = (copy, trim); means = (same, is_trim); is = refl }
