-- What an event loop hears of its sockets, which bytes were handed out then, and what it makes of a hub.

use Rattle.std.specs.Prelude.{⊤, ◌≡◌, ℕ, Bool, IsTrue, List, [], ◌∷◌, ◌++◌, take}
use Rattle.sr_book.specs.{Recorded}
use Rattle.sr_book.specs.Server.{moment_after}
use Rattle.sr_hub.specs.Lines.{HubState, with_more}
use Rattle.sr_hub.specs.Said.{last_of}
use Rattle.sr_hub.specs.Traffic.{AreServed, Traffic}
use Rattle.sr_hub.specs.declared.sockets.Heard.{Heard}
use Rattle.sr_hub.specs.declared.sockets.Heard.TheVariants as heard

-- how many bytes came
abbrev pub count_of : Heard → ℕ
count_of heard.Came = 0
count_of (heard.Bytes token count) = count
count_of (heard.Room token) = 0
count_of (heard.Over token) = 0
count_of heard.Planned = 0
count_of heard.Nothing = 0
count_of heard.End = 0

-- the bytes that were taken from the connection at each token: more of the one whose bytes came, the first in the
-- buffer
abbrev pub taken_after : Heard → List ℕ → (ℕ → List ℕ) → ℕ → List ℕ
taken_after heard.Came buffer taken = taken
taken_after (heard.Bytes token count) buffer taken = with_more token (take count buffer) taken
taken_after (heard.Room token) buffer taken = taken
taken_after (heard.Over token) buffer taken = taken
taken_after heard.Planned buffer taken = taken
taken_after heard.Nothing buffer taken = taken
taken_after heard.End buffer taken = taken

-- what passed through the sockets then
abbrev pub passed_by : Heard → List ℕ → Traffic → Traffic
passed_by heard buffer traffic = record traffic { taken = taken_after heard buffer traffic.taken }

-- each record has the later of the moment before it and one that the clock may tell
abbrev pub AreTold : (ℕ → Bool) → ℕ → List Recorded → Type 0
AreTold may_tell last [] = ⊤
AreTold may_tell last (first ∷ records) =
    ((told : ℕ) × IsTrue (may_tell told) × (first.moment ≡ moment_after last told))
    × AreTold may_tell first.moment records

-- records were added, at moments of the clock; by what may have passed through the sockets then each connection is
-- served, and each that was closed was
pub record GoOnAs (may_tell : ℕ → Bool) (last : ℕ) (records : List Recorded) (may_have : Traffic → Type 0)
    (hub : HubState) : Type 0 where
  pub added : List Recorded
  pub traffic : Traffic
  pub told : AreTold may_tell last added
  pub lasts : hub.book.server.last ≡ last_of last added
  pub may : may_have traffic
  pub served : AreServed (records ++ added) traffic hub
