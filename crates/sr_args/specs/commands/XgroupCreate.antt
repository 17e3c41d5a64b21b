-- XGROUP CREATE key group id [MKSTREAM]
-- Source: Redis documentation, command XGROUP CREATE.

use Rattle.std.specs.Prelude.{[], ◌∷◌, codes, Some}
use Rattle.sr_args.specs.declared.call.Call.{Call}
use Rattle.sr_args.specs.declared.call.Call.TheVariants as calls
use Rattle.sr_args.specs.declared.name.OptionSet.TheVariants as sets
use Rattle.sr_args.specs.FormWord.{position}
use Rattle.sr_args.specs.Form.{Form, end, text, id, options, Values}
use Rattle.sr_args.specs.Row.{Row}

abbrev pub row : Row
row = record { name = codes "XGROUP" ∷ codes "CREATE" ∷ []; fewest = 5; most = Some 6 }

abbrev pub form : Form
form = text (text (id position (options sets.XgroupCreate end)))

abbrev pub call : Values form → Call
call (key, (group, (from, (chosen, nothing_more)))) =
    calls.XgroupCreate (record { key = key; group = group; from = from; make = chosen.create_makes })
