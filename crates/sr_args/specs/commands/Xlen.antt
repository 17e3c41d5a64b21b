-- XLEN key
-- Source: Redis documentation, command XLEN.

use Rattle.std.specs.Prelude.{[], ◌∷◌, codes, Some}
use Rattle.sr_args.specs.declared.call.Call.{Call}
use Rattle.sr_args.specs.declared.call.Call.TheVariants as calls
use Rattle.sr_args.specs.Form.{Form, end, text, Values}
use Rattle.sr_args.specs.Row.{Row}

abbrev pub row : Row
row = record { name = codes "XLEN" ∷ []; fewest = 2; most = Some 2 }

abbrev pub form : Form
form = text end

abbrev pub call : Values form → Call
call (key, nothing_more) = calls.Xlen (record { key = key })
