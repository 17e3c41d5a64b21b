-- Reads that wait for an entry, if there is none yet.
-- Source: Redis documentation, commands XREAD and XREADGROUP.

use Rattle.std.specs.Prelude.{ℕ, Option, None}
use Rattle.sr_args.specs.declared.call.Call.{Call}
use Rattle.sr_args.specs.declared.call.Call.TheVariants as calls

-- for how many milliseconds a call waits, if it waits: 0 is without end
abbrev pub block_of : Call → Option ℕ
block_of (calls.Xread call) = call.block
block_of (calls.Xreadgroup call) = call.block
block_of call = None

-- the same call, that does not wait
abbrev pub without_block : Call → Call
without_block (calls.Xread call) = calls.Xread (record call { block = None })
without_block (calls.Xreadgroup call) = calls.Xreadgroup (record call { block = None })
without_block call = call
