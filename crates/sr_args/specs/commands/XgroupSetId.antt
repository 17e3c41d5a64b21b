-- XGROUP SETID key group id
-- Source: Redis documentation, command XGROUP SETID.

use Rattle.std.specs.Prelude.{[], ◌∷◌, codes, Some}
use Rattle.sr_args.specs.declared.call.Call.{Call}
use Rattle.sr_args.specs.declared.call.Call.TheVariants as calls
use Rattle.sr_args.specs.FormWord.{position}
use Rattle.sr_args.specs.Form.{Form, end, text, id, Values}
use Rattle.sr_args.specs.Row.{Row}

abbrev pub row : Row
row = record { name = codes "XGROUP" ∷ codes "SETID" ∷ []; fewest = 5; most = Some 5 }

abbrev pub form : Form
form = text (text (id position end))

abbrev pub call : Values form → Call
call (key, (group, (from, nothing_more))) = calls.XgroupSetId (record { key = key; group = group; from = from })
