-- How the words of a request meet the names of the table. No public clause cites this module.

use Rattle.std.specs.Prelude.{List, [], ◌∷◌, option_to_list}
use Rattle.std.specs.Option.{option_copied}
use Rattle.sr_args.specs.declared.table.CommandName.{CommandName}
use Rattle.sr_args.specs.declared.table.Row as declared
use Rattle.sr_args.specs.declared.table.NameMatch.{NameMatch}
use Rattle.sr_args.specs.declared.table.NameMatch.TheVariants as matches
use Rattle.sr_args.specs.declared.table.Found.{Found}
use Rattle.sr_args.specs.declared.table.Found.TheVariants as found
use Rattle.sr_args.specs.FormWord.{Word}
use Rattle.sr_args.specs.Row.{Row}
use Rattle.sr_args.specs.Table.{Begins, IsCut, IsNamed, IsHalfNamed}
use Rattle.sr_args.specs.commands.{row_of}

-- what a row of the code's table says
abbrev pub shown : declared.Row → Row
shown r = record { name = r.first.now ∷ option_to_list (option_copied r.second); fewest = r.fewest; most = r.most }

-- the words neither begin with the name nor are cut from it
pub record IsOther (name words : List Word) : Type 0 where
  pub unnamed : (rest : List Word) → Begins name words rest → ⊥
  pub uncut : IsCut name words → ⊥

-- how the words meet the name
abbrev pub IsMatch : List Word → List Word → NameMatch → Type 0
IsMatch name words (matches.Named rest) = Begins name words rest
IsMatch name words matches.Cut = IsCut name words
IsMatch name words matches.Other = IsOther name words

-- the words meet the name of none of these commands
abbrev pub AreOther : List CommandName → List Word → Type 0
AreOther [] words = Unit {0}
AreOther (command ∷ commands) words = IsOther (row_of command).name words × AreOther commands words

-- which of these commands the words name
abbrev pub IsFoundAmong : List CommandName → List Word → Found → Type 0
IsFoundAmong commands words (found.Command command operands) = IsNamed command words operands
IsFoundAmong commands words found.HalfNamed = IsHalfNamed words
IsFoundAmong commands words found.Unknown = AreOther commands words

-- which command the words name
abbrev pub IsFound : List Word → Found → Type 0
IsFound words (found.Command command operands) = IsNamed command words operands
IsFound words found.HalfNamed = IsHalfNamed words
IsFound words found.Unknown = (command : CommandName) → IsOther (row_of command).name words
