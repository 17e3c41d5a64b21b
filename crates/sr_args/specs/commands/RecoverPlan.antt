-- RECOVER.PLAN key group DEAD consumer [consumer ..]
-- Source: docs/COMMANDS.md, RECOVER.PLAN.

use Rattle.std.specs.Prelude.{false, [], ◌∷◌, codes, None}
use Rattle.sr_args.specs.declared.call.Command.{Command}
use Rattle.sr_args.specs.declared.call.Command.TheVariants as asked
use Rattle.sr_args.specs.declared.name.OptionName.TheVariants as names
use Rattle.sr_args.specs.Form.{Form, text, texts_after, Values}
use Rattle.sr_args.specs.commands.RecoverRun.{usual_tries}
use Rattle.sr_args.specs.Row.{Row}

abbrev pub row : Row
row = record { name = codes "RECOVER.PLAN" ∷ []; fewest = 5; most = None }

abbrev pub form : Form
form = text (text (texts_after names.Dead))

abbrev pub command : Values form → Command
command (key, (group, dead)) = asked.Recover false usual_tries key group dead
