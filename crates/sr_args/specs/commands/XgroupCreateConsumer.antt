-- XGROUP CREATECONSUMER key group consumer
-- Source: Redis documentation, command XGROUP CREATECONSUMER.

use Rattle.std.specs.Prelude.{[], ◌∷◌, codes, Some}
use Rattle.sr_args.specs.declared.call.Call.{Call}
use Rattle.sr_args.specs.declared.call.Call.TheVariants as calls
use Rattle.sr_args.specs.Form.{Form, end, text, Values}
use Rattle.sr_args.specs.Row.{Row}

abbrev pub row : Row
row = record { name = codes "XGROUP" ∷ codes "CREATECONSUMER" ∷ []; fewest = 5; most = Some 5 }

abbrev pub form : Form
form = text (text (text end))

abbrev pub call : Values form → Call
call (key, (group, (consumer, nothing_more))) =
    calls.XgroupCreateConsumer (record { key = key; group = group; consumer = consumer })
