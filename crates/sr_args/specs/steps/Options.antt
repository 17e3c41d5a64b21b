-- How the words of a command begin with its options, and what reading them leaves. No public clause speaks of it.
-- Source: Redis documentation, the page of each command.

use Rattle.std.specs.Prelude.{◌≡◌, ◌≢◌, ◌⊎◌, ℕ, ◌+◌, List, [], ◌∷◌, ◌++◌, length, get_or, map}
use Rattle.std.specs.Prelude.{Bool, true, false, Option, Some, None, Result, Ok, Err, ⊤}
use Rattle.std.specs.List.{flat_map}
use Rattle.std.specs.Option.{option_copied}
use denote.Enum.Declared.{tag_of}
use Rattle.sr_args.specs.contracts.name.Flag as flags
use Rattle.sr_args.specs.contracts.name.Numbered as numbers
use Rattle.sr_args.specs.declared.fault.CallFault.{CallFault}
use Rattle.sr_args.specs.declared.fault.CallFault.TheVariants as calls
use Rattle.sr_args.specs.declared.name.Choice.{Choice}
use Rattle.sr_args.specs.declared.name.TheConstants.{FLAGS}
use Rattle.sr_args.specs.declared.options.Given.{Given}
use Rattle.sr_args.specs.declared.options.GroupWords.{GroupWords}
use Rattle.sr_args.specs.declared.options.OptionWords.{OptionWords}
use Rattle.sr_args.specs.declared.options.OptionWords.TheVariants as words
use Rattle.sr_args.specs.declared.options.TheConstants.{KINDS}
use Rattle.sr_args.specs.declared.options.TrimWords.{TrimWords}
use Rattle.sr_args.specs.declared.call.Trim.{Trim}
use Rattle.sr_args.specs.declared.call.TrimBy.{TrimBy}
use Rattle.sr_args.specs.declared.options.ValueFault.{ValueFault}
use Rattle.sr_args.specs.declared.options.ValueFault.TheVariants as faults
use Rattle.sr_args.specs.declared.name.Measure.{Measure}
use Rattle.sr_args.specs.declared.name.OptionName.{OptionName}
use Rattle.sr_args.specs.declared.name.OptionName.TheVariants as options
use Rattle.sr_args.specs.declared.options.OptionKind.{OptionKind}
use Rattle.sr_args.specs.declared.options.OptionKind.TheVariants as kinds
use Rattle.sr_args.specs.declared.name.OptionSet.{OptionSet}
use Rattle.sr_args.specs.declared.name.Sign.{Sign}
use Rattle.sr_args.specs.declared.name.Sign.TheVariants.{Nearly}
use Rattle.sr_args.specs.Name.{IsSameName, nothing, option_text, sign_text}
use Rattle.sr_args.specs.FormWord.{Word, FormWord, Fits, HasNumber, HasNumbers, HasId, HasIds}
use Rattle.sr_args.specs.Options.{TrimReading, Written, flag, numbered, count, named_group, trimming}
use Rattle.sr_args.specs.Options.{operand_places, sign_places, group_in}
use Rattle.sr_args.specs.Options.{bound_place, option_places, first_name, kind, IsIn}
use Rattle.sr_args.specs.Options.{IsTrimFit, IsOptionFit, AreOptionsFit, IsUnnamed, IsPast, Choose, Sets}
use Rattle.sr_args.specs.Options.{IsBound, IsTrim}

-- the words begin with a part: they fit its places with any after them, if the rest fits those; and before places that
-- may follow they fit no other part
pub record Begins {T : Type 0} (form : T → List FormWord) (IsRight : T → Type 0) (IsNext : T → List FormWord → Type 0)
    (words : List Word) (part : T) (rest : List Word) : Type 0 where
  pub right : IsRight part
  pub fits : (places : List FormWord) → Fits rest places → Fits words (form part ++ places)
  pub only : (other : T) (places : List FormWord) → IsRight other → IsNext other places →
      Fits words (form other ++ places) → (other ≡ part) × Fits rest places

-- the words begin with no such part
abbrev pub BeginsNone : {T : Type 0} (form : T → List FormWord) (IsRight : T → Type 0)
    (IsNext : T → List FormWord → Type 0) (words : List Word) → Type 0
BeginsNone {T} form IsRight IsNext words =
    (other : T) (places : List FormWord) → IsRight other → IsNext other places → Fits words (form other ++ places) → ⊥

-- the name of LIMIT fits the first of these places in no words
pub record IsUnlimited (places : List FormWord) : Type 0 where
  pub unnamed : (word : Word) (words : List Word) → IsSameName word (option_text options.Limit) →
      Fits (word ∷ words) places → ⊥

-- any places may follow
abbrev pub IsAny : {T : Type 0} → T → List FormWord → Type 0
IsAny part places = ⊤

-- [=|~] bound
abbrev pub signed_places : Measure → Option Sign × Word → List FormWord
signed_places by signed = sign_places signed.0 ++ (bound_place by signed.1 ∷ [])

-- a "=" or "~" before the bound is its sign
pub record IsSigned (signed : Option Sign × Word) : Type 0 where
  pub sign_first : (sign : Sign) → signed.0 ≡ None → signed.1 ≢ sign_text sign

-- LIMIT goes with "~" alone
abbrev pub IsLimitOf : Option Sign → Option Word → Type 0
IsLimitOf sign limit = (limit ≡ None) ⊎ (sign ≡ Some Nearly)

abbrev pub IsUnlimitedAfter : Option Word → List FormWord → Type 0
IsUnlimitedAfter limit places = IsUnlimited places

-- [=|~] bound [LIMIT number]
abbrev pub trim_operands : TrimReading → List FormWord
trim_operands trim = operand_places (trimming trim)

-- a trim of this measure
pub record IsTrimBy (by : Measure) (trim : TrimReading) : Type 0 where
  pub by_is : trim.by ≡ by
  pub fit : IsTrimFit trim

abbrev pub IsTrimEnd : TrimReading → List FormWord → Type 0
IsTrimEnd trim places = IsUnlimited places

-- an option of this name in the set
pub record IsOptionNamed (set : OptionSet) (name : OptionName) (o : Written) : Type 0 where
  pub name_is : first_name o ≡ name
  pub fit : IsOptionFit set o

-- no word goes on with the option
abbrev pub IsOptionEnd : Written → List FormWord → Type 0
IsOptionEnd (flag f) places = ⊤
IsOptionEnd (numbered which word) places = ⊤
IsOptionEnd (count range most) places = ⊤
IsOptionEnd (named_group group consumer) places = ⊤
IsOptionEnd (trimming trim) places = IsUnlimited places

-- the other options are those written and a tail, which the words left begin with
pub record GoesOn (written others : List Written) (left : List Word) (places : List FormWord) : Type 0 where
  pub tail : List Written
  pub are : others ≡ written ++ tail
  pub fits : Fits left (flat_map option_places tail ++ places)

-- the words begin with the options written, and every reading of them goes on after these
pub record BeginsOptions (set : OptionSet) (words : List Word) (written : List Written) (left : List Word) : Type 0
  where
    pub right : AreOptionsFit set written
    pub fits : (places : List FormWord) → Fits left places → Fits words (flat_map option_places written ++ places)
    pub only : (others : List Written) (places : List FormWord) → AreOptionsFit set others → IsPast set places →
        Fits words (flat_map option_places others ++ places) → GoesOn written others left places

-- the words begin with the options written and no more: they are the one reading, and what is left follows them
pub record EndsOptions (set : OptionSet) (words : List Word) (written : List Written) (left : List Word) : Type 0 where
  pub right : AreOptionsFit set written
  pub fits : (places : List FormWord) → Fits left places → Fits words (flat_map option_places written ++ places)
  pub only : (others : List Written) (places : List FormWord) → AreOptionsFit set others → IsPast set places →
      Fits words (flat_map option_places others ++ places) → (others ≡ written) × Fits left places
  pub past : (word : Word) (rest : List Word) → left ≡ word ∷ rest → IsUnnamed set word

-- the words begin with no options of the set that anything may follow
abbrev pub BeginsNoOptions : OptionSet → List Word → Type 0
BeginsNoOptions set words = (others : List Written) (places : List FormWord) → AreOptionsFit set others →
    IsPast set places → Fits words (flat_map option_places others ++ places) → ⊥

-- the words of a trim
abbrev pub trim_reading : TrimWords → TrimReading
trim_reading words =
    record { by = words.by; sign = words.sign; bound = words.bound.now; limit = option_copied words.limit }

-- the words of an option
abbrev pub written_of : OptionWords → Written
written_of (words.Flag f) = flag f
written_of (words.Numbered which word) = numbered which word.now
written_of (words.Count range most) = count range most.now
written_of (words.Group named) = named_group named.group.now named.consumer.now
written_of (words.Trim trim) = trimming (trim_reading trim)

-- the words of a group and a consumer, if there are any
abbrev pub named_by : Option GroupWords → Option (Word × Word)
named_by None = None
named_by (Some words) = Some (words.group.now, words.consumer.now)

-- what the options ask for, or the first fault of their words: a number that is missing comes before an id that is
abbrev pub AreJudged : List Written → Result Choice ValueFault → Type 0
AreJudged written (Ok choice) = Choose written nothing choice
AreJudged written (Err faults.Number) = HasNumbers (flat_map option_places written) → ⊥
AreJudged written (Err faults.BadId) =
    HasNumbers (flat_map option_places written) × (HasIds (flat_map option_places written) → ⊥)

-- the same of a single option after what was asked for before it
abbrev pub IsJudged : Written → Choice → Result Choice ValueFault → Type 0
IsJudged o before (Ok after) = Sets o before after
IsJudged o before (Err faults.Number) = HasNumbers (option_places o) → ⊥
IsJudged o before (Err faults.BadId) = HasNumbers (option_places o) × (HasIds (option_places o) → ⊥)

-- the trim that the words are, or the first fault of its words
abbrev pub GivesTrim : TrimReading → Result Trim ValueFault → Type 0
GivesTrim reading (Ok trim) = IsTrim reading trim
GivesTrim reading (Err faults.Number) = HasNumbers (trim_operands reading) → ⊥
GivesTrim reading (Err faults.BadId) = HasNumbers (trim_operands reading) × (HasIds (trim_operands reading) → ⊥)

-- the bound of a trim, or the fault of its word
abbrev pub GivesBound : Measure → Word → Result TrimBy ValueFault → Type 0
GivesBound by word (Ok bound) = IsBound by word bound
GivesBound by word (Err faults.Number) = HasNumber (bound_place by word) → ⊥
GivesBound by word (Err faults.BadId) = HasNumber (bound_place by word) × (HasId (bound_place by word) → ⊥)

-- the place of a kind among the kinds: flags come after three, and then numbers
abbrev pub index_of : OptionKind → ℕ
index_of kinds.Count = 0
index_of kinds.Group = 1
index_of kinds.Trim = 2
index_of (kinds.Flag f) = 3 + tag_of flags.the_type f
index_of (kinds.Numbered which) = 3 + FLAGS + tag_of numbers.the_type which

abbrev pub fault_of : ValueFault → CallFault
fault_of faults.Number = calls.Number
fault_of faults.BadId = calls.BadId

-- the kinds of the options written are those that were seen
pub record AreSeen (seen : List Bool) (written : List Written) : Type 0 where
  pub many : length seen ≡ KINDS
  pub yes : (k : OptionKind) → get_or seen (index_of k) false ≡ true → IsIn k (map kind written)
  pub no : (k : OptionKind) → get_or seen (index_of k) false ≡ false → IsIn k (map kind written) → ⊥

-- the loop over options between two of them
pub record IsUnderway (set : OptionSet) (words left : List Word) (seen : List Bool)
    (judged : Result Choice ValueFault) (group : Option GroupWords) : Type 0 where
  pub written : List Written
  pub begins : BeginsOptions set words written left
  pub seen_are : AreSeen seen written
  pub judged_are : AreJudged written judged
  pub group_is : named_by group ≡ group_in written

-- what reading the options leaves: what they ask for, and whom they name
pub record IsGiven (written : List Written) (given : Given) : Type 0 where
  pub judged_are : AreJudged written given.judged
  pub group_is : named_by given.group ≡ group_in written
