-- What a command writes and replies, and how a command on one stream is carried out at its key.

use Rattle.std.specs.Prelude.{ℕ, Option, Some, None, pos}
use Rattle.sr_resp.specs.{ReplyParts, error_reply, integer}
use Rattle.sr_resp.specs.declared.code.ErrCode.{ErrCode}
use Rattle.sr_stream.specs.{StreamState}
use Rattle.sr_space.specs.Keys.{Key, Keys, stream_at, with_stream}

-- the keys that a command leaves, and its reply
pub record Executed : Type 0 where
  pub keys : Keys
  pub outcome : ReplyParts

-- what a command on one stream writes at its key, if anything, and its reply
pub record Touched : Type 0 where
  pub written : Option StreamState
  pub outcome : ReplyParts

-- no key changes, and this is replied
abbrev pub unchanged : Keys → ReplyParts → Executed
unchanged keys answer = record { keys = keys; outcome = answer }

-- nothing is written, and this is replied
abbrev pub replies : ReplyParts → Touched
replies answer = record { written = None; outcome = answer }

-- nothing is written, and an error is replied
abbrev pub refuses : ErrCode → Touched
refuses code = replies (error_reply code)

-- the stream is written, and this is replied
abbrev pub writes : StreamState → ReplyParts → Touched
writes stream answer = record { written = Some stream; outcome = answer }

-- the stream is changed, and a count of it replied: 0 if the key is missing
abbrev pub counts : (StreamState → StreamState) → (StreamState → ℕ) → Option StreamState → Touched
counts change count None = replies (integer (pos 0))
counts change count (Some stream) = writes (change stream) (integer (pos (count stream)))

-- a stream after such a command
abbrev pub left_of : StreamState → Option StreamState → StreamState
left_of stream None = stream
left_of stream (Some written) = written

-- the keys after such a command at this key
abbrev pub left_at : Keys → Key → Option StreamState → Keys
left_at keys key None = keys
left_at keys key (Some written) = with_stream keys key written

abbrev pub placed : Keys → Key → Touched → Executed
placed keys key touched = record { keys = left_at keys key touched.written; outcome = touched.outcome }

-- a command on one stream, carried out on the stream at a key, if the key is there
abbrev pub at_key : Keys → Key → (Option StreamState → Touched) → Executed
at_key keys key f = placed keys key (f (stream_at keys key))
