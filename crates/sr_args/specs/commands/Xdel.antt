-- XDEL key id [id ..]
-- Source: Redis documentation, command XDEL.

use Rattle.std.specs.Prelude.{[], ◌∷◌, codes, None}
use Rattle.sr_args.specs.declared.call.Call.{Call}
use Rattle.sr_args.specs.declared.call.Call.TheVariants as calls
use Rattle.sr_args.specs.FormWord.{strict_id}
use Rattle.sr_args.specs.Form.{Form, text, ids, Values}
use Rattle.sr_args.specs.Row.{Row}

abbrev pub row : Row
row = record { name = codes "XDEL" ∷ []; fewest = 3; most = None }

abbrev pub form : Form
form = text (ids strict_id)

abbrev pub call : Values form → Call
call (key, list) = calls.Xdel (record { key = key; ids = list })
