-- Which words begin with the name of a command, of one word or of two, and which commands take how many words.
-- Source: Redis documentation, the page of each command, "Syntax".

use Rattle.std.specs.Prelude.{◌≡◌, ℕ, ◌≤◌, List, [], ◌∷◌, IfSome}
use Rattle.sr_args.specs.declared.table.CommandName.{CommandName}
use Rattle.sr_args.specs.Name.{IsSameName}
use Rattle.sr_args.specs.FormWord.{Word}
use Rattle.sr_args.specs.commands.{row_of}

-- the words begin with the name, in any case of its letters, and these words follow it
abbrev pub Begins : (name : List Word) → List Word → List Word → Type 0
Begins [] words rest = words ≡ rest
Begins (first ∷ name) [] rest = ⊥
Begins (first ∷ name) (word ∷ words) rest = IsSameName word first × Begins name words rest

-- the words are a beginning of the name, and not all of it
abbrev pub IsCut : (name : List Word) → List Word → Type 0
IsCut [] words = ⊥
IsCut (first ∷ name) [] = ⊥
IsCut (first ∷ []) (word ∷ words) = ⊥
IsCut (first ∷ second ∷ name) (word ∷ []) = IsSameName word first
IsCut (first ∷ second ∷ name) (word ∷ next ∷ words) = IsSameName word first × IsCut (second ∷ name) (next ∷ words)

-- the words begin with the name of the command, and its operands follow
abbrev pub IsNamed : CommandName → List Word → List Word → Type 0
IsNamed command words operands = Begins (row_of command).name words operands

-- the words are a command's name cut short: the first word of a name of two
abbrev pub IsHalfNamed : List Word → Type 0
IsHalfNamed words = (command : CommandName) × IsCut (row_of command).name words

-- the command takes that many words, its name counted
pub record IsCounted (command : CommandName) (words : ℕ) : Type 0 where
  pub enough : (row_of command).fewest ≤ words
  pub not_too_many : IfSome (row_of command).most (λ most. words ≤ most)
