-- Replies that arrive in pieces, and what bytes can still become them.
-- Source: RESP2 protocol specification, "RESP protocol description".

use Rattle.std.specs.Prelude.{ℕ, ◌<◌, List, ◌++◌, length}
use Rattle.sr_peer.specs.Reply.{Part, Spell}

-- how many replies are awaited, and the bytes that have come
pub record Awaited : Type 0 where
  pub count : ℕ
  pub text : List ℕ

-- the most bytes that the replies to one exchange may have: 64 MiB
abbrev pub most_bytes : ℕ
most_bytes = 67108864

-- the text spells this many replies, and nothing more
abbrev pub AreWhole : ℕ → List ℕ → Type 0
AreWhole count text = (parts : List Part) × Spell count text parts

-- with some bytes more the text spells this many replies
abbrev pub MayBecome : ℕ → List ℕ → Type 0
MayBecome count text = (more : List ℕ) × AreWhole count (text ++ more)

-- whatever comes after it, the text does not spell this many replies
abbrev pub CannotBecome : ℕ → List ℕ → Type 0
CannotBecome count text = (more : List ℕ) → AreWhole count (text ++ more) → ⊥

-- whatever comes after it, the text spells this many replies only if it is too long
abbrev pub Outgrows : ℕ → List ℕ → Type 0
Outgrows count text = (more : List ℕ) → AreWhole count (text ++ more) → most_bytes < length (text ++ more)
