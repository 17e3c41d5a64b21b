-- Which words are a command, and which command; and else the first reason why they are not one.
-- Source: Redis documentation, the page of each command.

use Rattle.std.specs.Prelude.{◌≡◌, ◌⊎◌, List, length, Result, Ok, Err}
use Rattle.sr_args.specs.declared.table.CommandName.{CommandName}
use Rattle.sr_args.specs.declared.call.Command.{Command}
use Rattle.sr_args.specs.declared.fault.CallFault.{CallFault}
use Rattle.sr_args.specs.declared.fault.CallFault.TheVariants as faults
use Rattle.sr_args.specs.FormWord.{Word, FormWord, HasNumbers, HasIds}
use Rattle.sr_args.specs.Table.{IsNamed, IsHalfNamed, IsCounted}
use Rattle.sr_args.specs.Form.{Reading, Values, places, Reads, Means}
use Rattle.sr_args.specs.commands.{form_of, command_of}

-- the words name the command, these operands follow its name, and it takes that many words
pub record IsWellCounted (words : List Word) (command : CommandName) (operands : List Word) : Type 0 where
  pub named : IsNamed command words operands
  pub counted : IsCounted command (length words)

-- the words fit the form of a command that takes that many words
pub record IsRead (words : List Word) : Type 0 where
  pub name : CommandName
  pub operands : List Word
  pub counted : IsWellCounted words name operands
  pub reading : Reading (form_of name)
  pub reads : Reads (form_of name) operands reading

-- the words in the places of their form
abbrev pub places_of : (words : List Word) → IsRead words → List FormWord
places_of words read = places (form_of read.name) read.reading

-- the words are what the request asks for
pub record IsCommand (words : List Word) (asked : Command) : Type 0 where
  pub read : IsRead words
  pub values : Values (form_of read.name)
  pub means : Means (form_of read.name) read.reading values
  pub is : asked ≡ command_of read.name values

-- the words begin with a command's name
pub record IsCommandNamed (words : List Word) : Type 0 where
  pub name : CommandName
  pub operands : List Word
  pub named : IsNamed name words operands

-- the words name a command that takes that many words
pub record IsCommandCounted (words : List Word) : Type 0 where
  pub name : CommandName
  pub operands : List Word
  pub counted : IsWellCounted words name operands

-- the words name a command that takes another number of words
pub record IsMiscounted (words : List Word) : Type 0 where
  pub name : CommandName
  pub operands : List Word
  pub named : IsNamed name words operands
  pub uncounted : IsCounted name (length words) → ⊥

-- the words are not a command, and this is the first reason: they name no command, nor the first part of one; the name
-- is cut short, or its command takes another number of words; the words do not fit its form, whatever is in the places
-- of numbers and ids; they fit it, and some number's place does not hold a number; or all numbers are there, and some
-- id's place does not hold an id. Memory runs out for commands alone.
abbrev pub Refuses : List Word → CallFault → Type 0
Refuses words faults.Unknown = (IsCommandNamed words → ⊥) × (IsHalfNamed words → ⊥)
Refuses words faults.Arity = IsMiscounted words ⊎ IsHalfNamed words
Refuses words faults.Syntax = IsCommandCounted words × (IsRead words → ⊥)
Refuses words faults.Number = (read : IsRead words) × (HasNumbers (places_of words read) → ⊥)
Refuses words faults.BadId =
    (read : IsRead words) × HasNumbers (places_of words read) × (HasIds (places_of words read) → ⊥)
Refuses words faults.Memory = (asked : Command) × IsCommand words asked

-- a right answer to the words: the command that they are, or the reason why they are not one
abbrev pub Answers : List Word → Result Command CallFault → Type 0
Answers words (Ok command) = IsCommand words command
Answers words (Err fault) = Refuses words fault
