-- XACK key group id [id ..]
-- Source: Redis documentation, command XACK.

use Rattle.std.specs.Prelude.{[], ◌∷◌, codes, None}
use Rattle.sr_args.specs.declared.call.Call.{Call}
use Rattle.sr_args.specs.declared.call.Call.TheVariants as calls
use Rattle.sr_args.specs.FormWord.{strict_id}
use Rattle.sr_args.specs.Form.{Form, text, ids, Values}
use Rattle.sr_args.specs.Row.{Row}

abbrev pub row : Row
row = record { name = codes "XACK" ∷ []; fewest = 4; most = None }

abbrev pub form : Form
form = text (text (ids strict_id))

abbrev pub call : Values form → Call
call (key, (group, list)) = calls.Xack (record { key = key; group = group; ids = list })
