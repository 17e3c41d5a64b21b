-- XREVRANGE key end start [COUNT int]
-- Source: Redis documentation, command XREVRANGE.

use Rattle.std.specs.Prelude.{[], ◌∷◌, codes, Some}
use Rattle.sr_args.specs.declared.call.Call.{Call}
use Rattle.sr_args.specs.declared.call.Call.TheVariants as calls
use Rattle.sr_args.specs.declared.name.OptionSet.TheVariants as sets
use Rattle.sr_args.specs.FormWord.{range_start, range_end}
use Rattle.sr_args.specs.Form.{Form, end, text, id, options, Values}
use Rattle.sr_args.specs.Row.{Row}

abbrev pub row : Row
row = record { name = codes "XREVRANGE" ∷ []; fewest = 4; most = Some 6 }

abbrev pub form : Form
form = text (id range_end (id range_start (options sets.Range end)))

abbrev pub call : Values form → Call
call (key, (until, (start, (chosen, nothing_more)))) =
    calls.Xrevrange (record { key = key; end = until; start = start; count = chosen.count })
