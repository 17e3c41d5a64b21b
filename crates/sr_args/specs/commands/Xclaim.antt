-- XCLAIM key group consumer least_idle id [id ..] [IDLE number] [TIME number] [RETRYCOUNT number] [JUSTID]
-- Source: Redis documentation, command XCLAIM.

use Rattle.std.specs.Prelude.{List, [], ◌∷◌, codes, None}
use Rattle.sr_args.specs.declared.call.Call.{Call}
use Rattle.sr_args.specs.declared.call.Call.TheVariants as calls
use Rattle.sr_args.specs.declared.name.OptionName.{OptionName}
use Rattle.sr_args.specs.declared.name.OptionName.TheVariants.{Force, LastId}
use Rattle.sr_args.specs.declared.name.OptionSet.TheVariants as sets
use Rattle.sr_args.specs.FormWord.{int}
use Rattle.sr_args.specs.Form.{Form, text, number, ids_before, barring, Values}
use Rattle.sr_args.specs.Row.{Row}

abbrev pub row : Row
row = record { name = codes "XCLAIM" ∷ []; fewest = 6; most = None }

-- options of Redis that are not supported: no word after the least idle time names one of them
abbrev pub unsupported : List OptionName
unsupported = Force ∷ LastId ∷ []

abbrev pub form : Form
form = text (text (text (number int (barring unsupported (ids_before sets.Xclaim)))))

abbrev pub call : Values form → Call
call (key, (group, (consumer, (least_idle, (list, chosen))))) =
    calls.Xclaim (record {
      key = key;
      group = group;
      consumer = consumer;
      least_idle = least_idle;
      ids = list;
      time = chosen.time;
      count = chosen.delivered;
      just_ids = chosen.just_ids;
    })
