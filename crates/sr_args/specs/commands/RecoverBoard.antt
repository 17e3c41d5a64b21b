-- RECOVER.BOARD key group
-- Source: docs/COMMANDS.md, RECOVER.BOARD.

use Rattle.std.specs.Prelude.{[], ◌∷◌, codes, Some}
use Rattle.sr_args.specs.declared.call.Command.{Command}
use Rattle.sr_args.specs.declared.call.Command.TheVariants as asked
use Rattle.sr_args.specs.Form.{Form, end, text, Values}
use Rattle.sr_args.specs.Row.{Row}

abbrev pub row : Row
row = record { name = codes "RECOVER.BOARD" ∷ []; fewest = 3; most = Some 3 }

abbrev pub form : Form
form = text (text end)

abbrev pub command : Values form → Command
command (key, (group, nothing_more)) = asked.Board key group
