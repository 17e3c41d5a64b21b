-- XREAD [COUNT int] [BLOCK number] STREAMS key [key ..] id [id ..]
-- Source: Redis documentation, command XREAD.

use Rattle.std.specs.Prelude.{[], ◌∷◌, codes, None}
use Rattle.std.specs.List.{zip}
use Rattle.sr_args.specs.declared.call.Call.{Call}
use Rattle.sr_args.specs.declared.call.Call.TheVariants as calls
use Rattle.sr_args.specs.declared.name.OptionSet.TheVariants as sets
use Rattle.sr_args.specs.FormWord.{position}
use Rattle.sr_args.specs.Form.{Form, options, streams, Values}
use Rattle.sr_args.specs.Row.{Row}

abbrev pub row : Row
row = record { name = codes "XREAD" ∷ []; fewest = 4; most = None }

abbrev pub form : Form
form = options sets.Xread (streams position)

abbrev pub call : Values form → Call
call (chosen, (keys, from)) =
    calls.Xread (record { count = chosen.count; block = chosen.block; streams = zip keys from })
