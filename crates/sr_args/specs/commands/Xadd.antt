-- XADD key [NOMKSTREAM] [MAXLEN|MINID [=|~] bound [LIMIT number]] id field value [field value ..]
-- Source: Redis documentation, command XADD.

use Rattle.std.specs.Prelude.{[], ◌∷◌, codes, None}
use Rattle.sr_args.specs.declared.call.Call.{Call}
use Rattle.sr_args.specs.declared.call.Call.TheVariants as calls
use Rattle.sr_args.specs.declared.name.OptionSet.TheVariants as sets
use Rattle.sr_args.specs.FormWord.{new_id}
use Rattle.sr_args.specs.Form.{Form, text, options, id, pairs, Values}
use Rattle.sr_args.specs.Row.{Row}

abbrev pub row : Row
row = record { name = codes "XADD" ∷ []; fewest = 5; most = None }

abbrev pub form : Form
form = text (options sets.Xadd (id new_id pairs))

abbrev pub call : Values form → Call
call (key, (chosen, (spec, fields))) =
    calls.Xadd (record { key = key; make = chosen.add_makes; trim = chosen.trim; id = spec; fields = fields })
