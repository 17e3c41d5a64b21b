-- Reads that wait: when a read waits for entries, as which call, and until when.
-- Source: Redis documentation, the pages of XREAD and XREADGROUP, "BLOCK".

use Rattle.std.specs.Prelude.{ℕ, zero, suc, ◌+◌, ◌^◌, ◌&&◌, nat_lt, Bool, true, false, if◌then◌else◌}
use Rattle.std.specs.Prelude.{List, [], ◌∷◌, map, Option, Some, None}
use Rattle.sr_args.specs.declared.call.Call.{Call}
use Rattle.sr_args.specs.declared.call.Call.TheVariants as calls
use Rattle.sr_args.specs.declared.call.Position.{Position}
use Rattle.sr_args.specs.declared.call.Position.TheVariants.{At}
use Rattle.sr_args.specs.{block_of}
use Rattle.sr_space.specs.declared.blocking.Outcome.{Outcome}
use Rattle.sr_space.specs.declared.blocking.Outcome.TheVariants as outcomes
use Rattle.sr_resp.specs.{ReplyParts}
use Rattle.sr_space.specs.Bounds.{in_63_bits}
use Rattle.sr_space.specs.Effect.{at_once}
use Rattle.sr_space.specs.Keys.{Key, Keys, stream_at}
use Rattle.sr_space.specs.Touched.{Executed}
use Rattle.sr_space.specs.commands.Xread.{count_of, read_from, read_streams}
use Rattle.sr_space.specs.commands.Xreadgroup.{have_group, listed_of_all}

-- what a call leaves, and what it leads to: a reply, or a read that waits
pub record Called : Type 0 where
  pub keys : Keys
  pub outcome : Outcome

-- nothing is listed
abbrev pub is_nothing : {X : Type 0} → List X → Bool
is_nothing [] = true
is_nothing (x ∷ xs) = false

-- the call is a read, and finds nothing. A read whose key or group is missing has an answer: the refusal.
abbrev pub finds_nothing : Keys → ℕ → Call → Bool
finds_nothing keys moment (calls.Xread call) = is_nothing (read_streams call.count keys call.streams)
finds_nothing keys moment (calls.Xreadgroup call) =
    have_group call.group keys call.streams
    && is_nothing (listed_of_all (in_63_bits moment) call.group call.consumer (count_of call.count) call.no_ack keys
    call.streams)
finds_nothing keys moment call = false

-- a stream that is read after `$`: after the last id that it has given now
abbrev pub fixed_position : Keys → Key × Position → Key × Position
fixed_position keys (key, from) = (key, At (read_from from (stream_at keys key)))

-- the call as which a read waits: without BLOCK, and each `$` the last id at the call
abbrev pub waiting_as : Keys → Call → Call
waiting_as keys (calls.Xread call) =
    calls.Xread (record call { block = None; streams = map (fixed_position keys) call.streams })
waiting_as keys (calls.Xreadgroup call) = calls.Xreadgroup (record call { block = None })
waiting_as keys call = call

-- until when a read waits that blocks for this many milliseconds: 0 has no end, nor has what lies after the greatest
-- moment
abbrev pub deadline_of : ℕ → ℕ → Option ℕ
deadline_of moment zero = None
deadline_of moment (suc wait) = if nat_lt (moment + suc wait) (2 ^ 63) then Some (moment + suc wait) else None

-- a call that was answered at once: the reply to send is the one to keep
abbrev pub outcome_of : ReplyParts → Outcome
outcome_of reply = outcomes.Reply reply reply

abbrev pub answered : Executed → Called
answered done = record { keys = done.keys; outcome = outcome_of done.outcome }

-- a read that waits: it has made its consumers, and they were seen
abbrev pub waits : Keys → ℕ → Call → ℕ → Called
waits keys moment call wait = record {
  keys = (at_once keys moment call).keys;
  outcome = outcomes.Blocked (waiting_as keys call) (deadline_of (in_63_bits moment) wait);
}

abbrev pub answered_or_waits : Option ℕ → Bool → Keys → ℕ → Call → Called
answered_or_waits None nothing keys moment call = answered (at_once keys moment call)
answered_or_waits (Some wait) false keys moment call = answered (at_once keys moment call)
answered_or_waits (Some wait) true keys moment call = waits keys moment call wait

-- a call at a moment: a read with BLOCK that finds nothing waits, and every other call is answered at once
abbrev pub executed : Keys → ℕ → Call → Called
executed keys moment call = answered_or_waits (block_of call) (finds_nothing keys moment call) keys moment call
