-- XPENDING key group [[IDLE number] start end count [consumer]]
-- Source: Redis documentation, command XPENDING.

use Rattle.std.specs.Prelude.{Option, Some, None, [], ◌∷◌, codes}
use Rattle.sr_args.specs.declared.call.Call.{Call}
use Rattle.sr_args.specs.declared.call.Call.TheVariants as calls
use Rattle.sr_args.specs.declared.commands.xpending.PendingAsked.{PendingAsked}
use Rattle.sr_args.specs.declared.name.Numbered.TheVariants.{Idle}
use Rattle.sr_args.specs.declared.name.OptionName.TheVariants as names
use Rattle.sr_args.specs.FormWord.{int, range_start, range_end}
use Rattle.sr_args.specs.Form.{Form, text, number, id, optional_text, before, maybe, Values}
use Rattle.sr_args.specs.Row.{Row}

abbrev pub row : Row
row = record { name = codes "XPENDING" ∷ []; fewest = 3; most = Some 9 }

-- [IDLE number] start end count [consumer]
abbrev pub listing : Form
listing = before (names.Numbered Idle) int (id range_start (id range_end (number int optional_text)))

abbrev pub form : Form
form = text (text (maybe listing))

abbrev pub asked : Values listing → PendingAsked
asked (least_idle, (start, (until, (most, consumer)))) =
    record { least_idle = least_idle; start = start; end = until; count = most; consumer = consumer }

abbrev pub asked_if : Values (maybe listing) → Option PendingAsked
asked_if None = None
asked_if (Some values) = Some (asked values)

abbrev pub call : Values form → Call
call (key, (group, values)) = calls.Xpending (record { key = key; group = group; listing = asked_if values })
