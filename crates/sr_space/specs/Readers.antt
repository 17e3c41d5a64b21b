-- Which keys a waiting read asks, and which calls are reads: so that a change at one key wakes the readers of that key
-- alone, and a read wakes nobody.
-- Source: Redis documentation, the pages of XREAD and XREADGROUP, "BLOCK".

use Rattle.std.specs.Prelude.{List, Bool, true, false, not, filter, nat_eq}
use Rattle.std.specs.Cmp.Lexicographic.{pointwise}
use Rattle.std.specs.List.{list_any}
use Rattle.sr_args.specs.declared.call.Call.{Call}
use Rattle.sr_args.specs.declared.call.Call.TheVariants as calls
use Rattle.sr_space.specs.Keys.{Key}

-- one of the streams has the key
abbrev pub has_key : {X : Type 0} → Key → List (Key × X) → Bool
has_key key streams = list_any (λ stream. pointwise nat_eq stream.0 key) streams

-- a read asks the stream at the key; of another call this is taken for granted
abbrev pub asks : Key → Call → Bool
asks key (calls.Xread read) = has_key key read.streams
asks key (calls.Xreadgroup read) = has_key key read.streams
asks key call = true

-- the call is a read of streams
abbrev pub is_read : Call → Bool
is_read (calls.Xread read) = true
is_read (calls.Xreadgroup read) = true
is_read call = false

-- of these streams the one with the key
abbrev pub streams_at : {X : Type 0} → Key → List (Key × X) → List (Key × X)
streams_at key streams = filter (λ stream. pointwise nat_eq stream.0 key) streams

-- and the others
abbrev pub streams_beside : {X : Type 0} → Key → List (Key × X) → List (Key × X)
streams_beside key streams = filter (λ stream. not (pointwise nat_eq stream.0 key)) streams

-- a read of the stream at the key alone; another call stays
abbrev pub read_at : Key → Call → Call
read_at key (calls.Xread read) = calls.Xread (record read { streams = streams_at key read.streams })
read_at key (calls.Xreadgroup read) = calls.Xreadgroup (record read { streams = streams_at key read.streams })
read_at key call = call

-- a read of its other streams alone; another call stays
abbrev pub read_beside : Key → Call → Call
read_beside key (calls.Xread read) = calls.Xread (record read { streams = streams_beside key read.streams })
read_beside key (calls.Xreadgroup read) = calls.Xreadgroup (record read { streams = streams_beside key read.streams })
read_beside key call = call
