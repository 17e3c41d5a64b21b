-- Which parts a text spells: it determines them, as the lemmas in steps/OneSpelling show.
-- Source: RESP2 protocol specification, "RESP protocol description".

use Rattle.std.specs.Prelude.{◌≡◌, ℕ, List}
use Rattle.std.specs.List.{AllByRecursion, flat_map}
use Rattle.sr_peer.specs.Reply.{Part, IsSpellable, part_text}

-- the text spells these parts
pub record Spells (text : List ℕ) (parts : List Part) : Type 0 where
  pub spellable : AllByRecursion IsSpellable parts
  pub spelled : text ≡ flat_map part_text parts

-- the text spells parts
abbrev pub IsSpelled : List ℕ → Type 0
IsSpelled text = (parts : List Part) × Spells text parts

-- the parts that it spells
unfoldable pub parts_of : (text : List ℕ) → IsSpelled text → List Part
parts_of text is = is.0
