-- A stream of requests: the requests that its bytes spell, and where it goes wrong.
-- Source: RESP2 protocol specification, "Sending commands to a Redis server" and "Multiple commands and pipelining".

use Rattle.std.specs.Prelude.{◌≡◌, ◌≢◌, ◌+◌, ◌≤◌, ℕ, length, List, [], ◌∷◌, ◌++◌, Option, Some, None, Bool, MatchBool}
use Rattle.sr_resp.specs.Request.{Words, Spells}

-- the text is the spellings of these requests and empty commands, one after another
abbrev pub AreSpelled : List ℕ → List (Option Words) → Type 0
AreSpelled text [] = text ≡ []
AreSpelled text (item ∷ items) =
    (front : List ℕ) × (behind : List ℕ) × Spells front item × AreSpelled behind items × (text ≡ front ++ behind)

-- the requests among them
abbrev pub requests_in : List (Option Words) → List Words
requests_in [] = []
requests_in (None ∷ items) = requests_in items
requests_in (Some words ∷ items) = words ∷ requests_in items

-- the stream is the spellings of these requests, with empty commands before, between and after them, and then the rest
pub record Splits (stream : List ℕ) (requests : List Words) (rest : List ℕ) : Type 0 where
  pub items : List (Option Words)
  pub spelled : List ℕ
  pub each : AreSpelled spelled items
  pub only : requests_in items ≡ requests
  pub whole : stream ≡ spelled ++ rest

-- the beginning of a spelling: more bytes can complete it
pub record IsPartial (rest : List ℕ) : Type 0 where
  pub more : List ℕ
  pub item : Option Words
  pub whole : Spells (rest ++ more) item
  pub lacking : more ≢ []

-- a fault: however the bytes go on, no spelling comes
abbrev pub IsFault : List ℕ → Type 0
IsFault rest = (more text after : List ℕ) (item : Option Words) → Spells text item → rest ++ more ≡ text ++ after → ⊥

-- the state of a reader: the requests that wait to be handed out, what has come of the next one, whether the stream
-- went wrong, and how many bytes were looked at
pub record Progress : Type 0 where
  pub waiting : List Words
  pub rest : List ℕ
  pub failed : Bool
  pub looked : ℕ

-- at most as many bytes were looked at as the piece has, and none is counted back
abbrev pub LooksOnce : Progress → Progress → List ℕ → Type 0
LooksOnce old new piece = (old.looked ≤ new.looked) × (new.looked ≤ old.looked + length piece)

-- the bytes taken so far are the requests handed out and those that wait, and then what has come of the next one, or
-- a fault
pub record Stands (taken : List ℕ) (given : List Words) (now : Progress) : Type 0 where
  pub rest : List ℕ
  pub stream : Splits taken (given ++ now.waiting) rest
  pub end : MatchBool now.failed (IsFault rest) ((now.rest ≡ rest) × IsPartial rest)

-- whatever was taken and handed out before, the piece has now been taken too
abbrev pub Advances : Progress → Progress → List ℕ → Type 0
Advances old new piece =
    (taken : List ℕ) (given : List Words) → Stands taken given old → Stands (taken ++ piece) given new
