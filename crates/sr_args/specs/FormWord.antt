-- The places in the form of a command: which words stand there, and which numbers and ids these words write.
-- Source: Redis documentation, the page of each command, "Syntax".

use Rattle.std.specs.Prelude.{◌≡◌, ℕ, ℤ, List, [], ◌∷◌, ⊤}
use Rattle.sr_ids.specs.declared.id.Id.{Id}
use Rattle.sr_ids.specs.declared.spec.Spec.{Spec}
use Rattle.sr_ids.specs.{IsSpec, SpellsId, IsStart}
use Rattle.sr_ids.specs.Spelling.{IsEnd}
use Rattle.sr_args.specs.declared.call.Position.{Position}
use Rattle.sr_args.specs.declared.reads.ReadAsked.{ReadAsked}
use Rattle.sr_args.specs.declared.name.OptionName.{OptionName}
use Rattle.sr_args.specs.Name.{IsSameName, option_text}
use Rattle.sr_args.specs.Number.{IsInt, IsNat, IsFromOne, IsTries}
use Rattle.sr_args.specs.Position.{SpellsPosition, SpellsRead}

abbrev pub Word : Type 0
Word = List ℕ

-- which numbers a place takes: any of 64 bits with a sign, those that are not below 0, those from 1 on, or a number of
-- rounds
pub data Range : Type 0 where
  int : Range
  nat : Range
  from_one : Range
  tries : Range

abbrev pub Number : Range → Type 0
Number int = ℤ
Number nat = ℕ
Number from_one = ℤ
Number tries = ℕ

-- the word writes the number
abbrev pub Writes : (range : Range) → Word → Number range → Type 0
Writes int word z = IsInt word z
Writes nat word n = IsNat word n
Writes from_one word z = IsFromOne word z
Writes tries word n = IsTries word n

-- how the id of a place is spelled: as a written id, as the start or the end of a range, as the id of a new entry, as a
-- position in a stream, or as what a consumer of a group reads of it
pub data IdForm : Type 0 where
  strict_id : IdForm
  range_start : IdForm
  range_end : IdForm
  new_id : IdForm
  position : IdForm
  read_id : IdForm

abbrev pub IdOf : IdForm → Type 0
IdOf strict_id = Id
IdOf range_start = Id
IdOf range_end = Id
IdOf new_id = Spec
IdOf position = Position
IdOf read_id = ReadAsked

-- the word spells the id
abbrev pub Spells : (form : IdForm) → Word → IdOf form → Type 0
Spells strict_id word id = SpellsId 0 word id
Spells range_start word id = IsStart word id
Spells range_end word id = IsEnd word id
Spells new_id word spec = IsSpec word spec
Spells position word from = SpellsPosition word from
Spells read_id word asked = SpellsRead word asked

-- a place in a form: the name of an option, any word, a word that is to write a number, or one that is to spell an id
pub data FormWord : Type 0 where
  option : OptionName → FormWord
  any : Word → FormWord
  numeric : Range → Word → FormWord
  spelled : IdForm → Word → FormWord

-- the word stands in the place; the name of an option in any case
abbrev pub Stands : Word → FormWord → Type 0
Stands word (option name) = IsSameName word (option_text name)
Stands word (any other) = word ≡ other
Stands word (numeric range other) = word ≡ other
Stands word (spelled form other) = word ≡ other

-- the words stand in these places, one in each
abbrev pub Fits : List Word → List FormWord → Type 0
Fits [] [] = ⊤
Fits (word ∷ words) (place ∷ places) = Stands word place × Fits words places
Fits [] (place ∷ places) = ⊥
Fits (word ∷ words) [] = ⊥

-- if the place is a number's, its word writes one in its range
abbrev pub HasNumber : FormWord → Type 0
HasNumber (option name) = ⊤
HasNumber (any word) = ⊤
HasNumber (numeric range word) = (n : Number range) × Writes range word n
HasNumber (spelled form word) = ⊤

-- if the place is an id's, its word spells one
abbrev pub HasId : FormWord → Type 0
HasId (option name) = ⊤
HasId (any word) = ⊤
HasId (numeric range word) = ⊤
HasId (spelled form word) = (id : IdOf form) × Spells form word id

-- each place of a number holds one
abbrev pub HasNumbers : List FormWord → Type 0
HasNumbers [] = ⊤
HasNumbers (place ∷ places) = HasNumber place × HasNumbers places

-- each place of an id holds one
abbrev pub HasIds : List FormWord → Type 0
HasIds [] = ⊤
HasIds (place ∷ places) = HasId place × HasIds places
