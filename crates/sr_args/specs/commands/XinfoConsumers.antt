-- XINFO CONSUMERS key group
-- Source: Redis documentation, command XINFO CONSUMERS.

use Rattle.std.specs.Prelude.{[], ◌∷◌, codes, Some}
use Rattle.sr_args.specs.declared.call.Call.{Call}
use Rattle.sr_args.specs.declared.call.Call.TheVariants as calls
use Rattle.sr_args.specs.Form.{Form, end, text, Values}
use Rattle.sr_args.specs.Row.{Row}

abbrev pub row : Row
row = record { name = codes "XINFO" ∷ codes "CONSUMERS" ∷ []; fewest = 4; most = Some 4 }

abbrev pub form : Form
form = text (text end)

abbrev pub call : Values form → Call
call (key, (group, nothing_more)) = calls.XinfoConsumers (record { key = key; group = group })
