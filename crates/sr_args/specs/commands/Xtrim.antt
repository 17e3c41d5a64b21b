-- XTRIM key MAXLEN|MINID [=|~] bound [LIMIT number]
-- Source: Redis documentation, command XTRIM.

use Rattle.std.specs.Prelude.{[], ◌∷◌, codes, Some}
use Rattle.sr_args.specs.declared.call.Call.{Call}
use Rattle.sr_args.specs.declared.call.Call.TheVariants as calls
use Rattle.sr_args.specs.Form.{Form, text, trim, Values}
use Rattle.sr_args.specs.Row.{Row}

abbrev pub row : Row
row = record { name = codes "XTRIM" ∷ []; fewest = 4; most = Some 7 }

abbrev pub form : Form
form = text trim

abbrev pub call : Values form → Call
call (key, by) = calls.Xtrim (record { key = key; trim = by })
