-- Reads that wait for entries, in the order in which they blocked.
-- Source: Redis documentation, the pages of XREAD and XREADGROUP, "BLOCK".

use Rattle.std.specs.Prelude.{⊤, ◌≡◌, ◌==◌, ℕ, List, [], ◌∷◌, Bool, false, not, nat_eq, nat_lt, filter}
use Rattle.std.specs.Prelude.{Option, Some, None, if◌then◌else◌}
use Rattle.std.specs.Cmp.Lexicographic.{pointwise}
use Rattle.std.specs.List.{list_any}
use Rattle.std.specs.Option.{option_map}
use Rattle.sr_args.specs.declared.call.Call.{Call}
use Rattle.sr_args.specs.declared.call.Call.TheVariants as calls

abbrev pub Key : Type 0
Key = List ℕ

-- one of the streams has the key
abbrev pub has_key : {X : Type 0} → Key → List (Key × X) → Bool
has_key key streams = list_any (λ stream. pointwise nat_eq stream.0 key) streams

-- a read asks the stream at the key; no other call does
abbrev pub asks : Key → Call → Bool
asks key (calls.Xread read) = has_key key read.streams
asks key (calls.Xreadgroup read) = has_key key read.streams
asks key call = false

-- a read that waits: the session that called it, the call, and the moment at which it is answered whatever is there, if
-- it has one, in milliseconds since 1970
pub record Waiting : Type 0 where
  pub session : ℕ
  pub call : Call
  pub deadline : Option ℕ

-- what contracts see: the reads in the order in which they blocked, and for how many more there is room
pub record WaitersState : Type 0 where
  pub list : List Waiting
  pub room : ℕ

-- a read of the session waits
abbrev pub has_session : ℕ → List Waiting → Bool
has_session session list = list_any (λ read. read.session == session) list

-- without the read of the session
abbrev pub without_session : ℕ → List Waiting → List Waiting
without_session session list = filter (λ read. not (read.session == session)) list

-- the read of the session, if it waits
abbrev pub read_of : ℕ → List Waiting → Option Waiting
read_of session [] = None
read_of session (read ∷ list) = if read.session == session then Some read else read_of session list

-- its session, and its call
abbrev pub session_of : Option Waiting → Option ℕ
session_of read = option_map (λ (r : Waiting). r.session) read

abbrev pub call_of : Option Waiting → Option Call
call_of read = option_map (λ (r : Waiting). r.call) read

-- the first read whose call passes a test
abbrev pub first_that : (Call → Bool) → List Waiting → Option Waiting
first_that passes [] = None
first_that passes (read ∷ list) = if passes read.call then Some read else first_that passes list

-- the deadline is reached at the moment; one without a deadline never is
abbrev pub is_reached : Option ℕ → ℕ → Bool
is_reached None moment = false
is_reached (Some deadline) moment = not (nat_lt moment deadline)

abbrev pub is_due : ℕ → Waiting → Bool
is_due moment read = is_reached read.deadline moment

-- the reads that are due at the moment, in their order; and those that are not
abbrev pub due_at : ℕ → List Waiting → List Waiting
due_at moment list = filter (is_due moment) list

abbrev pub not_due_at : ℕ → List Waiting → List Waiting
not_due_at moment list = filter (λ read. not (is_due moment read)) list

-- each session waits once at most
abbrev pub AreOnce : List Waiting → Type 0
AreOnce [] = ⊤
AreOnce (read ∷ list) = (has_session read.session list ≡ false) × AreOnce list
