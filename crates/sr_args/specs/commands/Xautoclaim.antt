-- XAUTOCLAIM key group consumer least_idle start [COUNT number] [JUSTID]
-- Source: Redis documentation, command XAUTOCLAIM.

use Rattle.std.specs.Prelude.{[], ◌∷◌, codes, Some}
use Rattle.sr_args.specs.declared.call.Call.{Call}
use Rattle.sr_args.specs.declared.call.Call.TheVariants as calls
use Rattle.sr_args.specs.declared.name.OptionSet.TheVariants as sets
use Rattle.sr_args.specs.FormWord.{int, range_start}
use Rattle.sr_args.specs.Form.{Form, end, text, number, id, options, Values}
use Rattle.sr_args.specs.Row.{Row}

abbrev pub row : Row
row = record { name = codes "XAUTOCLAIM" ∷ []; fewest = 6; most = Some 9 }

abbrev pub form : Form
form = text (text (text (number int (id range_start (options sets.Xautoclaim end)))))

abbrev pub call : Values form → Call
call (key, (group, (consumer, (least_idle, (start, (chosen, nothing_more)))))) =
    calls.Xautoclaim (record {
      key = key;
      group = group;
      consumer = consumer;
      least_idle = least_idle;
      start = start;
      count = chosen.count;
      just_ids = chosen.just_ids;
    })
