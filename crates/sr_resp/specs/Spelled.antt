-- Which parts a text spells: it determines them, as the lemmas in steps/OneSpelling show.
-- Source: RESP2 protocol specification, "RESP protocol description".

use Rattle.std.specs.Prelude.{◌≡◌, ◌^◌, ◌<◌, List, [], ◌∷◌, ℕ, length}
use lib.Signed.{mag}
use Rattle.sr_resp.specs.Reply.{Part, Simple, Error, Int, Bulk, NullBulk, NullArray, Array, reply_text}

-- the numbers of a part fit 64 bits
abbrev pub IsSpellable : Part → Type 0
IsSpellable (Simple word) = Unit {0}
IsSpellable (Error code) = Unit {0}
IsSpellable (Int n) = mag n < 2 ^ 63
IsSpellable (Bulk bytes) = length bytes < 2 ^ 64
IsSpellable NullBulk = Unit {0}
IsSpellable NullArray = Unit {0}
IsSpellable (Array items) = items < 2 ^ 64

-- each of these parts is such
abbrev pub AreSpellable : List Part → Type 0
AreSpellable [] = Unit {0}
AreSpellable (part ∷ parts) = IsSpellable part × AreSpellable parts

-- the text spells these parts
pub record Spells (text : List ℕ) (parts : List Part) : Type 0 where
  pub spelled : text ≡ reply_text parts
  pub fit : AreSpellable parts

-- the text spells parts
abbrev pub IsSpelled : List ℕ → Type 0
IsSpelled text = (parts : List Part) × Spells text parts

-- the parts that it spells
unfoldable pub parts_of : (text : List ℕ) → IsSpelled text → List Part
parts_of text is = is.0
