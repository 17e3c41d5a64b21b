-- The numbers of the command line: how each is written, and what it is if it is not there.
-- Source: docs/COMMANDS.md.

use Rattle.std.specs.Prelude.{◌≡◌, ◌≤◌, ℕ, zero, suc, List, Option, Some, None}
use Rattle.std.specs.Str.Parse.{IsNumeral, digits_value, without_leading_plus}

-- a text is this decimal number, which is from least to most
abbrev pub IsNumber : ℕ → ℕ → List ℕ → ℕ → Type 0
IsNumber least most text number = IsNumeral 10 (without_leading_plus text)
    × (digits_value 10 (without_leading_plus text) ≡ number) × (least ≤ number) × (number ≤ most)

-- how many threads serve connections: 64, or the number that is written, from 1 to 64
abbrev pub IsWorkers : Option (List ℕ) → ℕ → Type 0
IsWorkers None number = number ≡ 64
IsWorkers (Some text) number = IsNumber 1 64 text number

-- how many records are kept, at which a checkpoint is made beyond them: none is made without the option, or the number
-- that is written, from 1 to 1,000,000,000
abbrev pub IsKeep : Option (List ℕ) → Option ℕ → Type 0
IsKeep None keep = keep ≡ None
IsKeep (Some text) keep = (number : ℕ) × (keep ≡ Some number) × IsNumber 1 1000000000 text number

-- how many connections one loop serves: there is no loop without the option, or the number that is written, from 1 to
-- 10,000
abbrev pub IsConnections : Option (List ℕ) → Option ℕ → Type 0
IsConnections None connections = connections ≡ None
IsConnections (Some text) connections = (number : ℕ) × (connections ≡ Some number) × IsNumber 1 10000 text number

-- never for 0 seconds, and otherwise after that many
abbrev pub after_seconds : ℕ → Option ℕ
after_seconds zero = None
after_seconds (suc n) = Some (suc n)

-- after how many seconds a connection is closed of which no byte was read or written, unless its read waits: never
-- without the option, or the number that is written, from 0, which is never, to 86,400
abbrev pub IsIdle : Option (List ℕ) → Option ℕ → Type 0
IsIdle None idle = idle ≡ None
IsIdle (Some text) idle = (number : ℕ) × (idle ≡ after_seconds number) × IsNumber 0 86400 text number

-- how many bytes the requests that are not answered yet hold together: 1,073,741,824, or the number that is written,
-- from 1 to 1,000,000,000,000
abbrev pub IsUnfinished : Option (List ℕ) → ℕ → Type 0
IsUnfinished None number = number ≡ 1073741824
IsUnfinished (Some text) number = IsNumber 1 1000000000000 text number

-- about how many bytes the records that are kept take at most, a checkpoint being made beyond them: 67,108,864, or the
-- number that is written, from 1 to 1,000,000,000,000
abbrev pub IsKeepBytes : Option (List ℕ) → ℕ → Type 0
IsKeepBytes None number = number ≡ 67108864
IsKeepBytes (Some text) number = IsNumber 1 1000000000000 text number

-- after how many seconds a connection is closed of which no byte was read or written, while its read waits: as IsIdle
abbrev pub IsIdleWaiting : Option (List ℕ) → Option ℕ → Type 0
IsIdleWaiting written seconds = IsIdle written seconds
