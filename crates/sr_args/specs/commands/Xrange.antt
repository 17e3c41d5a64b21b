-- XRANGE key start end [COUNT int]
-- Source: Redis documentation, command XRANGE.

use Rattle.std.specs.Prelude.{[], ◌∷◌, codes, Some}
use Rattle.sr_args.specs.declared.call.Call.{Call}
use Rattle.sr_args.specs.declared.call.Call.TheVariants as calls
use Rattle.sr_args.specs.declared.name.OptionSet.TheVariants as sets
use Rattle.sr_args.specs.FormWord.{range_start, range_end}
use Rattle.sr_args.specs.Form.{Form, end, text, id, options, Values}
use Rattle.sr_args.specs.Row.{Row}

abbrev pub row : Row
row = record { name = codes "XRANGE" ∷ []; fewest = 4; most = Some 6 }

abbrev pub form : Form
form = text (id range_start (id range_end (options sets.Range end)))

abbrev pub call : Values form → Call
call (key, (start, (until, (chosen, nothing_more)))) =
    calls.Xrange (record { key = key; start = start; end = until; count = chosen.count })
