-- XREADGROUP GROUP group consumer [COUNT int] [BLOCK number] [NOACK] STREAMS key [key ..] id [id ..]
-- The options stand in any order before STREAMS, GROUP among them.
-- Source: Redis documentation, command XREADGROUP.

use Rattle.std.specs.Prelude.{[], ◌∷◌, codes, None}
use Rattle.std.specs.List.{zip}
use Rattle.sr_args.specs.declared.call.Call.{Call}
use Rattle.sr_args.specs.declared.call.Call.TheVariants as calls
use Rattle.sr_args.specs.declared.name.OptionSet.TheVariants as sets
use Rattle.sr_args.specs.FormWord.{read_id}
use Rattle.sr_args.specs.Form.{Form, grouped, streams, Values}
use Rattle.sr_args.specs.Row.{Row}

abbrev pub row : Row
row = record { name = codes "XREADGROUP" ∷ []; fewest = 7; most = None }

abbrev pub form : Form
form = grouped sets.Xreadgroup (streams read_id)

abbrev pub call : Values form → Call
call ((group, consumer), (chosen, (keys, asked))) =
    calls.Xreadgroup (record {
      group = group;
      consumer = consumer;
      count = chosen.count;
      block = chosen.block;
      no_ack = chosen.no_ack;
      streams = zip keys asked;
    })
