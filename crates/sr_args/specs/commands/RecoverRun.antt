-- RECOVER.RUN key group [TRIES number] DEAD consumer [consumer ..]
-- Source: docs/COMMANDS.md, RECOVER.RUN.

use Rattle.std.specs.Prelude.{ℕ, true, unwrap_or, [], ◌∷◌, codes, None}
use Rattle.sr_args.specs.declared.call.Command.{Command}
use Rattle.sr_args.specs.declared.call.Command.TheVariants as asked
use Rattle.sr_args.specs.declared.name.OptionName.TheVariants as names
use Rattle.sr_args.specs.FormWord.{tries}
use Rattle.sr_args.specs.Form.{Form, text, before, texts_after, Values}
use Rattle.sr_args.specs.Row.{Row}

abbrev pub row : Row
row = record { name = codes "RECOVER.RUN" ∷ []; fewest = 5; most = None }

-- how many rounds a recovery makes at most if TRIES does not say
abbrev pub usual_tries : ℕ
usual_tries = 3

abbrev pub form : Form
form = text (text (before names.Tries tries (texts_after names.Dead)))

abbrev pub command : Values form → Command
command (key, (group, (many, dead))) = asked.Recover true (unwrap_or many usual_tries) key group dead
