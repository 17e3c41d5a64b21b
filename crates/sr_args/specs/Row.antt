-- A row of the table of commands.
-- Source: Redis documentation, the page of each command, "Syntax".

use Rattle.std.specs.Prelude.{ℕ, List, Option}
use Rattle.sr_args.specs.FormWord.{Word}

-- the words of a command's name, the fewest words that it takes, its name counted, and the most if there is a bound
pub record Row : Type 0 where
  pub name : List Word
  pub fewest : ℕ
  pub most : Option ℕ
