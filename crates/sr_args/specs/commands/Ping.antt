-- PING [message]
-- Source: Redis documentation, command PING.

use Rattle.std.specs.Prelude.{[], ◌∷◌, codes, Some}
use Rattle.sr_args.specs.declared.call.Call.{Call}
use Rattle.sr_args.specs.declared.call.Call.TheVariants as calls
use Rattle.sr_args.specs.Form.{Form, optional_text, Values}
use Rattle.sr_args.specs.Row.{Row}

abbrev pub row : Row
row = record { name = codes "PING" ∷ []; fewest = 1; most = Some 2 }

abbrev pub form : Form
form = optional_text

abbrev pub call : Values form → Call
call message = calls.Ping (record { message = message })
