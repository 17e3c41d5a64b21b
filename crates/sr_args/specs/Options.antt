-- The options of commands by their words: which words each takes, which sets of them are right, and what they ask for.
-- Source: Redis documentation, the page of each command.

use Rattle.std.specs.Prelude.{◌≡◌, ◌≢◌, ◌⊎◌, ℕ, ℤ, List, [], ◌∷◌, ◌++◌, map}
use Rattle.std.specs.Prelude.{Option, Some, None, true, All, ⊤}
use Rattle.std.specs.Option.{option_or}
use Rattle.sr_ids.specs.{SpellsId}
use Rattle.sr_args.specs.declared.call.Trim.{Trim}
use Rattle.sr_args.specs.declared.call.TrimBy.{TrimBy}
use Rattle.sr_args.specs.declared.call.TrimBy.TheVariants as bounds
use Rattle.sr_args.specs.declared.name.Choice.{Choice}
use Rattle.sr_args.specs.declared.name.Flag.{Flag}
use Rattle.sr_args.specs.declared.name.Measure.{Measure}
use Rattle.sr_args.specs.declared.name.Measure.TheVariants as measures
use Rattle.sr_args.specs.declared.name.Numbered.{Numbered}
use Rattle.sr_args.specs.declared.name.OptionName.{OptionName}
use Rattle.sr_args.specs.declared.name.OptionName.TheVariants as options
use Rattle.sr_args.specs.declared.name.OptionSet.{OptionSet}
use Rattle.sr_args.specs.declared.name.OptionSet.TheVariants as sets
use Rattle.sr_args.specs.declared.name.Sign.{Sign}
use Rattle.sr_args.specs.declared.name.Sign.TheVariants.{Nearly}
use Rattle.sr_args.specs.declared.number.CountRange.{CountRange}
use Rattle.sr_args.specs.declared.number.CountRange.TheVariants.{Any, FromOne}
use Rattle.sr_args.specs.declared.options.OptionKind.{OptionKind}
use Rattle.sr_args.specs.declared.options.OptionKind.TheVariants as kinds
use Rattle.sr_args.specs.Name.{IsSameName, is_of, option_text, sign_text, with_flag, with_number}
use Rattle.sr_args.specs.Number.{IsNat, IsCount}
use Rattle.sr_args.specs.FormWord.{Word, FormWord, Fits, option, any, numeric, spelled, int, nat, from_one, strict_id}

-- a trim with the words in its places
pub record TrimReading : Type 0 where
  pub by : Measure
  pub sign : Option Sign
  pub bound : Word
  pub limit : Option Word

-- an option with the words in its places
pub data Written : Type 0 where
  flag : Flag → Written
  numbered : Numbered → Word → Written
  count : (range : CountRange) (most : Word) → Written
  named_group : (group consumer : Word) → Written
  trimming : (trim : TrimReading) → Written

-- [=|~]
abbrev pub sign_places : Option Sign → List FormWord
sign_places None = []
sign_places (Some sign) = any (sign_text sign) ∷ []

-- the bound of a trim: a number of entries, or an id
abbrev pub bound_place : Measure → Word → FormWord
bound_place measures.MaxLen word = numeric nat word
bound_place measures.MinId word = spelled strict_id word

-- [LIMIT number]
abbrev pub limit_places : Option Word → List FormWord
limit_places None = []
limit_places (Some word) = option options.Limit ∷ numeric nat word ∷ []

-- how many entries are wanted
abbrev pub count_place : CountRange → Word → FormWord
count_place Any word = numeric int word
count_place FromOne word = numeric from_one word

-- the name with which an option begins
abbrev pub first_name : Written → OptionName
first_name (flag f) = options.Flag f
first_name (numbered which word) = options.Numbered which
first_name (count range most) = options.Count
first_name (named_group group consumer) = options.Group
first_name (trimming trim) = options.Trim trim.by

-- what follows the name of an option: nothing, a number, COUNT's number, GROUP's group and consumer, or a trim's
-- [=|~] bound [LIMIT number]
abbrev pub operand_places : Written → List FormWord
operand_places (flag f) = []
operand_places (numbered which word) = numeric nat word ∷ []
operand_places (count range most) = count_place range most ∷ []
operand_places (named_group group consumer) = any group ∷ any consumer ∷ []
operand_places (trimming trim) = sign_places trim.sign ++ (bound_place trim.by trim.bound ∷ limit_places trim.limit)

-- an option: its name and what follows it
abbrev pub option_places : Written → List FormWord
option_places o = option (first_name o) ∷ operand_places o

-- what the places of a trim do not say: a "=" or "~" before the bound is its sign, and LIMIT goes with "~" alone
pub record IsTrimFit (trim : TrimReading) : Type 0 where
  pub sign_first : (sign : Sign) → trim.sign ≡ None → trim.bound ≢ sign_text sign
  pub limit_nearly : (trim.limit ≡ None) ⊎ (trim.sign ≡ Some Nearly)

-- which numbers COUNT takes in each set
abbrev pub count_range : OptionSet → CountRange
count_range sets.Range = Any
count_range sets.Xadd = Any
count_range sets.XgroupCreate = Any
count_range sets.Xautoclaim = FromOne
count_range sets.Xclaim = Any
count_range sets.Xread = Any
count_range sets.Xreadgroup = Any

-- what the places of an option do not say
abbrev pub IsOptionFit : OptionSet → Written → Type 0
IsOptionFit set (flag f) = ⊤
IsOptionFit set (numbered which word) = ⊤
IsOptionFit set (count range most) = range ≡ count_range set
IsOptionFit set (named_group group consumer) = ⊤
IsOptionFit set (trimming trim) = IsTrimFit trim

-- what kind of option it is: MAXLEN and MINID are both a trim
abbrev pub kind : Written → OptionKind
kind (flag f) = kinds.Flag f
kind (numbered which word) = kinds.Numbered which
kind (count range most) = kinds.Count
kind (named_group group consumer) = kinds.Group
kind (trimming trim) = kinds.Trim

-- the kind is one of these
abbrev pub IsIn : OptionKind → List OptionKind → Type 0
IsIn k [] = ⊥
IsIn k (other ∷ ks) = (k ≡ other) ⊎ IsIn k ks

-- no two are equal
abbrev pub AreDistinct : List OptionKind → Type 0
AreDistinct [] = ⊤
AreDistinct (k ∷ ks) = (IsIn k ks → ⊥) × AreDistinct ks

-- what the places of the options of a set do not say: each is of the set, and none is written twice
pub record AreOptionsFit (set : OptionSet) (written : List Written) : Type 0 where
  pub each : All (IsOptionFit set) written
  pub of_set : All (λ o. is_of set (first_name o) ≡ true) written
  pub once : AreDistinct (map kind written)

-- the word names no option of the set
abbrev pub IsUnnamed : OptionSet → Word → Type 0
IsUnnamed set word = (name : OptionName) → is_of set name ≡ true → IsSameName word (option_text name) → ⊥

-- a word in the first of these places names no option of the set
pub record IsPast (set : OptionSet) (places : List FormWord) : Type 0 where
  pub unnamed : (word : Word) (words : List Word) → Fits (word ∷ words) places → IsUnnamed set word

-- the bound of a trim: a number of entries, or an id
abbrev pub IsBound : Measure → Word → TrimBy → Type 0
IsBound measures.MaxLen word (bounds.MaxLen n) = IsNat word n
IsBound measures.MaxLen word (bounds.MinId id) = ⊥
IsBound measures.MinId word (bounds.MaxLen n) = ⊥
IsBound measures.MinId word (bounds.MinId id) = SpellsId 0 word id

-- the limit of a trim: 0, which is no limit, if it is not written
abbrev pub IsLimit : Option Word → ℕ → Type 0
IsLimit None n = n ≡ 0
IsLimit (Some word) n = IsNat word n

-- the words of a trim, read
pub record IsTrim (reading : TrimReading) (trim : Trim) : Type 0 where
  pub by : IsBound reading.by reading.bound trim.by
  pub limit : IsLimit reading.limit trim.limit

-- the option turns what was asked for before it into what is asked for after it
abbrev pub Sets : Written → Choice → Choice → Type 0
Sets (flag f) before after = after ≡ with_flag f before
Sets (numbered which word) before after = (n : ℕ) × IsNat word n × (after ≡ with_number which n before)
Sets (count range most) before after = (z : ℤ) × IsCount range most z × (after ≡ record before { count = Some z })
Sets (named_group group consumer) before after = after ≡ before
Sets (trimming reading) before after =
    (trim : Trim) × IsTrim reading trim × (after ≡ record before { trim = Some trim })

-- the options in the order in which they are written turn the first choice into the last
abbrev pub Choose : List Written → Choice → Choice → Type 0
Choose [] before after = after ≡ before
Choose (o ∷ written) before after = (next : Choice) × Sets o before next × Choose written next after

-- the group and the consumer that an option names
abbrev pub group_in_one : Written → Option (Word × Word)
group_in_one (flag f) = None
group_in_one (numbered which word) = None
group_in_one (count range most) = None
group_in_one (named_group group consumer) = Some (group, consumer)
group_in_one (trimming trim) = None

-- the group and the consumer that the options name, if they do: those of the first option that names them
abbrev pub group_in : List Written → Option (Word × Word)
group_in [] = None
group_in (o ∷ written) = option_or (group_in_one o) (group_in written)
