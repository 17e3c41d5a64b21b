-- An option with a number, read word by word. No public clause cites this module.

use Rattle.std.specs.Prelude.{◌≡◌, List, ◌∷◌, Option, Some, None, ⊤}
use Rattle.sr_args.specs.declared.name.OptionName.{OptionName}
use Rattle.sr_args.specs.Name.{IsSameName, option_text}
use Rattle.sr_args.specs.FormWord.{Word}

abbrev pub IsAnyWord : Option Word → Type 0
IsAnyWord word = ⊤

-- if the option is left out, the next word does not name it
abbrev pub IsPastNumber : OptionName → Option Word → List Word → Type 0
IsPastNumber name None left =
    (word : Word) (rest : List Word) → left ≡ word ∷ rest → IsSameName word (option_text name) → ⊥
IsPastNumber name (Some word) left = ⊤
