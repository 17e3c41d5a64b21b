-- Options are read in one way, and what they ask for is one.
use Rattle.std.proofs.Common.{◌≡◌, ◌≢◌, ℕ, cond, List, [], ◌∷◌, ◌++◌, map, codes, Option, Some, None, true, All, refl, sym, ap, ◌∙◌, append_assoc, append-nil, subst}
use Rattle.std.specs.Char.{to_ascii_lowercase}
use Rattle.std.specs.List.{flat_map}
use Rattle.std.specs.Str.{bytes_eq}
use Rattle.std.proofs.lemmas.List.Elements.{All-head, All-tail}
use Rattle.std.proofs.lemmas.Option.{same_Some}
use Rattle.sr_args.specs.declared.name.Flag.TheVariants.{MkStream}
use Rattle.sr_args.specs.declared.name.Measure.{Measure}
use Rattle.sr_args.specs.declared.name.Measure.TheVariants as measures
use Rattle.sr_args.specs.declared.name.Numbered.TheVariants.{Idle}
use Rattle.sr_args.specs.declared.name.OptionName.{OptionName}
use Rattle.sr_args.specs.declared.name.OptionName.TheVariants as options
use Rattle.sr_args.specs.declared.name.TheConstants.{OPTIONS}
use Rattle.sr_args.specs.declared.name.Sign.{Sign}
use Rattle.sr_args.specs.declared.name.Sign.TheVariants.{Exact, Nearly}
use Rattle.sr_args.specs.declared.name.OptionSet.{OptionSet}
use Rattle.sr_args.specs.declared.name.OptionSet.TheVariants as sets
use Rattle.sr_args.specs.Name.{IsSameName, option_text, sign_text, is_of}
use Rattle.sr_args.specs.declared.number.CountRange.{CountRange}
use Rattle.sr_args.specs.declared.number.CountRange.TheVariants.{Any, FromOne}
use Rattle.sr_args.specs.FormWord.{Word, FormWord, Range, int, nat, from_one, Stands, Fits, option, any, numeric, spelled, IdForm}
use Rattle.sr_args.specs.Options.{TrimReading, Written, flag, numbered, count, named_group, trimming, sign_places, bound_place, limit_places, count_place, first_name, operand_places, option_places, IsTrimFit, IsOptionFit, AreOptionsFit, IsUnnamed, IsPast}
use Rattle.sr_args.specs.steps.Options.{IsUnlimited, IsSigned, IsOptionEnd}

-- the first of these options with this name in small letters
abbrev option_among : List OptionName → List ℕ → Option OptionName
option_among [] text = None
option_among (name ∷ names) text = cond (bytes_eq (map to_ascii_lowercase (option_text name)) text) (Some name) (option_among names text)

option_among-text : (name : OptionName) → option_among OPTIONS (map to_ascii_lowercase (option_text name)) ≡ Some name
option_among-text (options.Flag MkStream) = refl
option_among-text (options.Numbered Idle) = refl
option_among-text (options.Trim measures.MaxLen) = refl
option_among-text name = refl

-- no word names two options
pub name-one : (word : Word) (a b : OptionName) → IsSameName word (option_text a) → IsSameName word (option_text b) → a ≡ b
name-one word a b p q = same_Some a b (sym (option_among-text a) ∙ ap (option_among OPTIONS) (sym p ∙ q) ∙ option_among-text b)

-- no word is two signs
abbrev sign_at : List ℕ → Option Sign
sign_at text = cond (bytes_eq text (codes "=")) (Some Exact) (cond (bytes_eq text (codes "~")) (Some Nearly) None)

sign_at-text : (sign : Sign) → sign_at (sign_text sign) ≡ Some sign
sign_at-text Exact = refl
sign_at-text Nearly = refl

pub sign_text-one : (a b : Sign) → sign_text a ≡ sign_text b → a ≡ b
sign_text-one a b e = same_Some a b (sym (sign_at-text a) ∙ ap sign_at e ∙ sign_at-text b)

pub trim_name-one : (a b : Measure) → options.Trim a ≡ options.Trim b → a ≡ b
trim_name-one a b e = cc

abbrev pub trim_with : Measure → Option Sign → Word → Option Word → TrimReading
trim_with by sign bound limit = record { by = by; sign = sign; bound = bound; limit = limit }

same_parts : (by by′ : Measure) (sign sign′ : Option Sign) (bound bound′ : Word) (limit limit′ : Option Word) → by ≡ by′ → sign ≡ sign′ → bound ≡ bound′ → limit ≡ limit′ → trim_with by sign bound limit ≡ trim_with by′ sign′ bound′ limit′
same_parts by by′ sign sign′ bound bound′ limit limit′ e f g h = cc

pub same_trim : (a b : TrimReading) → a.by ≡ b.by → a.sign ≡ b.sign → a.bound ≡ b.bound → a.limit ≡ b.limit → a ≡ b
same_trim a b = same_parts a.by b.by a.sign b.sign a.bound b.bound a.limit b.limit

-- words are the texts that they are
pub Fits-texts : (words : List Word) → Fits words (map any words)
Fits-texts [] = tt
Fits-texts (word ∷ words) = (refl, Fits-texts words)

-- the words after a part of a form that is read in one way, and the two forms that go on with them
pub record GoOn (ps qs : List FormWord) : Type 0 where
  pub rest : List Word
  pub left : Fits rest ps
  pub right : Fits rest qs

-- a bound's word stands for itself
pub bound-stands : (by : Measure) (word bound : Word) → Stands word (bound_place by bound) → word ≡ bound
bound-stands measures.MaxLen word bound s = s
bound-stands measures.MinId word bound s = s

pub bound-itself : (by : Measure) (word : Word) → Stands word (bound_place by word)
bound-itself measures.MaxLen word = refl
bound-itself measures.MinId word = refl

sign-one : (words : List Word) (by by′ : Measure) (s t : Option Sign) (x y : Word) (ps qs : List FormWord) → IsSigned (s, x) → IsSigned (t, y) → Fits words (sign_places s ++ (bound_place by x ∷ ps)) → Fits words (sign_places t ++ (bound_place by′ y ∷ qs)) → (s ≡ t) × (x ≡ y) × GoOn ps qs
sign-one [] by by′ None t x y ps qs m n f g = absurd f
sign-one [] by by′ (Some s) t x y ps qs m n f g = absurd f
sign-one (w ∷ words) by by′ None None x y ps qs m n f g = (refl, sym (bound-stands by w x f.0) ∙ bound-stands by′ w y g.0, record { rest = words; left = f.1; right = g.1 })
sign-one (w ∷ words) by by′ None (Some t) x y ps qs m n f g = absurd (m.sign_first t refl (sym (bound-stands by w x f.0) ∙ g.0))
sign-one (w ∷ words) by by′ (Some s) None x y ps qs m n f g = absurd (n.sign_first s refl (sym (bound-stands by′ w y g.0) ∙ f.0))
sign-one (w ∷ []) by by′ (Some s) (Some t) x y ps qs m n f g = absurd f.1
sign-one (w ∷ v ∷ words) by by′ (Some s) (Some t) x y ps qs m n f g =
    (ap Some (sign_text-one s t (sym f.0 ∙ g.0)), sym (bound-stands by v x f.1.0) ∙ bound-stands by′ v y g.1.0, record { rest = words; left = f.1.1; right = g.1.1 })

limit-one : (words : List Word) (a b : Option Word) (ps qs : List FormWord) → IsUnlimited ps → IsUnlimited qs → Fits words (limit_places a ++ ps) → Fits words (limit_places b ++ qs) → (a ≡ b) × GoOn ps qs
limit-one words None None ps qs m n f g = (refl, record { rest = words; left = f; right = g })
limit-one [] None (Some b) ps qs m n f g = absurd g
limit-one (w ∷ words) None (Some b) ps qs m n f g = absurd (m.unnamed w words g.0 f)
limit-one [] (Some a) b ps qs m n f g = absurd f
limit-one (w ∷ words) (Some a) None ps qs m n f g = absurd (n.unnamed w words f.0 g)
limit-one (w ∷ []) (Some a) (Some b) ps qs m n f g = absurd f.1
limit-one (w ∷ v ∷ words) (Some a) (Some b) ps qs m n f g =
    (ap Some (sym f.1.0 ∙ g.1.0), record { rest = words; left = f.1.1; right = g.1.1 })

-- what follows the name of a trim, and the places after it
abbrev operands_then : TrimReading → List FormWord → List FormWord
operands_then t ps = sign_places t.sign ++ (bound_place t.by t.bound ∷ (limit_places t.limit ++ ps))

pub trim-regroup : (t : TrimReading) (ps : List FormWord) → operand_places (trimming t) ++ ps ≡ operands_then t ps
trim-regroup t ps = append_assoc (sign_places t.sign) (bound_place t.by t.bound ∷ limit_places t.limit) ps

trim_operands-one : (words : List Word) (a b : TrimReading) (ps qs : List FormWord) → a.by ≡ b.by → IsTrimFit a → IsTrimFit b → IsUnlimited ps → IsUnlimited qs → Fits words (operand_places (trimming a) ++ ps) → Fits words (operand_places (trimming b) ++ qs) → (a ≡ b) × GoOn ps qs
trim_operands-one words a b ps qs by u v m n f g =
    let left : Fits words (operands_then a ps) = subst (λ (rs : List FormWord). Fits words rs) (trim-regroup a ps) f in
    let right : Fits words (operands_then b qs) = subst (λ (rs : List FormWord). Fits words rs) (trim-regroup b qs) g in
    let sign = sign-one words a.by b.by a.sign b.sign a.bound b.bound (limit_places a.limit ++ ps) (limit_places b.limit ++ qs) (record { sign_first = u.sign_first }) (record { sign_first = v.sign_first }) left right in
    let limit = limit-one sign.2.rest a.limit b.limit ps qs m n sign.2.left sign.2.right in
    (same_trim a b by sign.0 sign.1 limit.0, limit.1)

-- after its name an option is read in one way
number-one : (range : Range) (words : List Word) (x y : Word) (ps qs : List FormWord) → Fits words (numeric range x ∷ ps) → Fits words (numeric range y ∷ qs) → (x ≡ y) × GoOn ps qs
number-one range [] x y ps qs f g = absurd f
number-one range (w ∷ words) x y ps qs f g = (sym f.0 ∙ g.0, record { rest = words; left = f.1; right = g.1 })

-- so are the words of GROUP
group-one : (words : List Word) (g h c d : Word) (ps qs : List FormWord) → Fits words (any g ∷ any c ∷ ps) → Fits words (any h ∷ any d ∷ qs) → (named_group g c ≡ named_group h d) × GoOn ps qs
group-one [] g h c d ps qs f k = absurd f
group-one (w ∷ []) g h c d ps qs f k = absurd f.1
group-one (w ∷ v ∷ words) g h c d ps qs f k =
    let group : g ≡ h = sym f.0 ∙ k.0 in
    let consumer : c ≡ d = sym f.1.0 ∙ k.1.0 in
    (cc, record { rest = words; left = f.1.1; right = k.1.1 })

-- the word of COUNT is read in one way, whatever numbers it takes
abbrev place_range : CountRange → Range
place_range Any = int
place_range FromOne = from_one

place-count : (range : CountRange) (word : Word) → count_place range word ≡ numeric (place_range range) word
place-count Any word = refl
place-count FromOne word = refl

count-one : (range other : CountRange) (words : List Word) (x y : Word) (ps qs : List FormWord) → range ≡ other → Fits words (count_place range x ∷ ps) → Fits words (count_place other y ∷ qs) → (count range x ≡ count other y) × GoOn ps qs
count-one range other words x y ps qs e f g =
    let left : Fits words (numeric (place_range range) x ∷ ps) = subst (λ (p : FormWord). Fits words (p ∷ ps)) (place-count range x) f in
    let same : Fits words (count_place range y ∷ qs) = subst (λ (r : CountRange). Fits words (count_place r y ∷ qs)) (sym e) g in
    let right : Fits words (numeric (place_range range) y ∷ qs) = subst (λ (p : FormWord). Fits words (p ∷ qs)) (place-count range y) same in
    let one = number-one (place_range range) words x y ps qs left right in
    let word = one.0 in
    (cc, one.1)

pub operands-one : (set : OptionSet) (words : List Word) (a b : Written) (ps qs : List FormWord) → first_name a ≡ first_name b → IsOptionFit set a → IsOptionFit set b → IsOptionEnd a ps → IsOptionEnd b qs → Fits words (operand_places a ++ ps) → Fits words (operand_places b ++ qs) → (a ≡ b) × GoOn ps qs
operands-one set words (flag a) (flag b) ps qs e u v m n f g = (cc, record { rest = words; left = f; right = g })
operands-one set words (numbered a x) (numbered b y) ps qs e u v m n f g =
    let one = number-one nat words x y ps qs f g in
    let word = one.0 in
    (cc, one.1)
operands-one set words (count r x) (count q y) ps qs e u v m n f g = count-one r q words x y ps qs (u ∙ sym v) f g
operands-one set words (named_group g c) (named_group h d) ps qs e u v m n f l = group-one words g h c d ps qs f l
operands-one set words (trimming a) (trimming b) ps qs e u v m n f g =
    let one = trim_operands-one words a b ps qs (trim_name-one a.by b.by e) u v m n f g in (ap trimming one.0, one.1)
operands-one set words a b ps qs e u v m n f g = cc

-- LIMIT begins no option
pub first_name-no_limit : (o : Written) → first_name o ≢ options.Limit
first_name-no_limit (trimming trim) = λ e. cc
first_name-no_limit o = λ e. cc

-- a set with a trim has LIMIT
limit-of_set : (set : OptionSet) (by : Measure) → is_of set (options.Trim by) ≡ true → is_of set options.Limit ≡ true
limit-of_set sets.Xadd by e = refl
limit-of_set set by e = cc

-- the options of a set and what follows them
abbrev pub then_places : List Written → List FormWord → List FormWord
then_places os ps = flat_map option_places os ++ ps

pub then-cons : (o : Written) (os : List Written) (ps : List FormWord) → then_places (o ∷ os) ps ≡ option (first_name o) ∷ (operand_places o ++ then_places os ps)
then-cons o os ps = ap (λ (rs : List FormWord). option (first_name o) ∷ rs) (append_assoc (operand_places o) (flat_map option_places os) ps)

unlimited-after : (set : OptionSet) (by : Measure) (os : List Written) (ps : List FormWord) → is_of set (options.Trim by) ≡ true → IsPast set ps → IsUnlimited (then_places os ps)
unlimited-after set by [] ps e p = record { unnamed = λ word words same f. p.unnamed word words f options.Limit (limit-of_set set by e) same }
unlimited-after set by (o ∷ os) ps e p = record { unnamed = λ word words same f. first_name-no_limit o (name-one word (first_name o) options.Limit f.0 same) }

pub end-after : (set : OptionSet) (o : Written) (os : List Written) (ps : List FormWord) → is_of set (first_name o) ≡ true → IsPast set ps → IsOptionEnd o (then_places os ps)
end-after set (trimming trim) os ps e p = unlimited-after set trim.by os ps e p
end-after set o os ps e p = tt

-- what is said of options holds of those after the first
abbrev Each : OptionSet → List Written → Type 0
Each set os = All (IsOptionFit set) os × All (λ o. is_of set (first_name o) ≡ true) os

Each-tail : (set : OptionSet) (o : Written) (os : List Written) → Each set (o ∷ os) → Each set os
Each-tail set o os e = (All-tail (IsOptionFit set) o os e.0, All-tail (λ o. is_of set (first_name o) ≡ true) o os e.1)

pub head-fit : (set : OptionSet) (o : Written) (os : List Written) → All (IsOptionFit set) (o ∷ os) → IsOptionFit set o
head-fit set o os e = All-head (IsOptionFit set) o os e

pub head-of_set : (set : OptionSet) (o : Written) (os : List Written) → All (λ o. is_of set (first_name o) ≡ true) (o ∷ os) → is_of set (first_name o) ≡ true
head-of_set set o os e = All-head (λ o. is_of set (first_name o) ≡ true) o os e

-- the words of a command are read as options of a set in one way, and the same words follow
options-one-each : (set : OptionSet) (words : List Word) (a b : List Written) (ps qs : List FormWord) → Each set a → Each set b → IsPast set ps → IsPast set qs → Fits words (then_places a ps) → Fits words (then_places b qs) → (a ≡ b) × GoOn ps qs
options-one-each set words [] [] ps qs u v m n f g = (refl, record { rest = words; left = f; right = g })
options-one-each set [] [] (o ∷ b) ps qs u v m n f g = absurd g
options-one-each set (w ∷ words) [] (o ∷ b) ps qs u v m n f g = absurd (m.unnamed w words f (first_name o) (head-of_set set o b v.1) g.0)
options-one-each set [] (o ∷ a) b ps qs u v m n f g = absurd f
options-one-each set (w ∷ words) (o ∷ a) [] ps qs u v m n f g = absurd (n.unnamed w words g (first_name o) (head-of_set set o a u.1) f.0)
options-one-each set (w ∷ words) (o ∷ a) (q ∷ b) ps qs u v m n f g =
    let left : Fits (w ∷ words) (option (first_name o) ∷ (operand_places o ++ then_places a ps)) = subst (λ (rs : List FormWord). Fits (w ∷ words) rs) (then-cons o a ps) f in
    let right : Fits (w ∷ words) (option (first_name q) ∷ (operand_places q ++ then_places b qs)) = subst (λ (rs : List FormWord). Fits (w ∷ words) rs) (then-cons q b qs) g in
    let name = name-one w (first_name o) (first_name q) left.0 right.0 in
    let of_o = head-of_set set o a u.1 in
    let of_q = head-of_set set q b v.1 in
    let first = operands-one set words o q (then_places a ps) (then_places b qs) name (head-fit set o a u.0) (head-fit set q b v.0) (end-after set o a ps of_o m) (end-after set q b qs of_q n) left.1 right.1 in
    let rest = options-one-each set first.1.rest a b ps qs (Each-tail set o a u) (Each-tail set q b v) m n first.1.left first.1.right in
    let head = first.0 in
    let tail = rest.0 in
    (cc, rest.1)

pub options-one : (set : OptionSet) (words : List Word) (a b : List Written) (ps qs : List FormWord) → AreOptionsFit set a → AreOptionsFit set b → IsPast set ps → IsPast set qs → Fits words (flat_map option_places a ++ ps) → Fits words (flat_map option_places b ++ qs) → (a ≡ b) × GoOn ps qs
options-one set words a b ps qs u v m n f g = options-one-each set words a b ps qs (u.each, u.of_set) (v.each, v.of_set) m n f g

-- the trim of XTRIM is read in one way
pub trim-one : (words : List Word) (a b : TrimReading) → IsTrimFit a → IsTrimFit b → Fits words (option_places (trimming a)) → Fits words (option_places (trimming b)) → a ≡ b
trim-one [] a b u v f g = absurd f
trim-one (w ∷ words) a b u v f g =
    let end : IsUnlimited [] = record { unnamed = λ word rest same fits. fits } in
    let name = name-one w (options.Trim a.by) (options.Trim b.by) f.0 g.0 in
    let left : Fits words (operand_places (trimming a) ++ []) = rw append-nil f.1 in
    let right : Fits words (operand_places (trimming b) ++ []) = rw append-nil g.1 in
    (trim_operands-one words a b [] [] (trim_name-one a.by b.by name) u v end end left right).0

-- the word after the options is no name of one
pub IsPast-id : (set : OptionSet) (form : IdForm) (word : Word) (places : List FormWord) → IsUnnamed set word → IsPast set (spelled form word ∷ places)
IsPast-id set form word places differs = record { unnamed = λ other words f name is same. differs name is (rw f.0 at same) }

pub IsPast-end : (set : OptionSet) → IsPast set []
IsPast-end set = record { unnamed = λ word words f. absurd f }

-- and STREAMS is the name of none
streams-no_option : (set : OptionSet) → is_of set options.Streams ≡ true → ⊥
streams-no_option sets.Range e = cc
streams-no_option set e = cc

pub IsPast-streams : (set : OptionSet) (places : List FormWord) → IsPast set (option options.Streams ∷ places)
IsPast-streams set places = record {
  unnamed = λ word words f name of same. streams-no_option set (subst (λ (n : OptionName). is_of set n ≡ true) (name-one word name options.Streams same f.0) of);
}
