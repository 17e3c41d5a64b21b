-- What is read back from the bytes of a reply, line by line. Only private clauses cite this.
-- Source: RESP2 protocol specification, "RESP protocol description".

use Rattle.std.specs.Prelude.{◌≡◌, ℕ, List, [], ◌∷◌, ◌++◌}
use Rattle.sr_resp.specs.Reply.{Part, AreReplies, part_text}
use Rattle.sr_resp.specs.Spelled.{IsSpellable, Spells}
use Rattle.sr_resp.specs.steps.OneSpelling.{mark, line, tail}

-- no byte of the line is a carriage return
abbrev pub IsLine : List ℕ → Type 0
IsLine [] = Unit {0}
IsLine (byte ∷ bytes) = (byte ≡ 13 → ⊥) × IsLine bytes

-- the text begins with this line, and these bytes come after its end
pub record HasLine (text front after : List ℕ) : Type 0 where
  pub whole : text ≡ front ++ 13 ∷ 10 ∷ after
  pub one : IsLine front

-- the part has this mark and this line, and is followed by these bytes if those come after the line
pub record HasForm (sign : ℕ) (text after : List ℕ) (part : Part) (others : List ℕ) : Type 0 where
  pub marked : mark part ≡ sign
  pub lined : line part ≡ text
  pub ended : tail part others ≡ after
  pub fits : IsSpellable part

-- the text begins with the spelling of this part, and these bytes come after it
pub record HasPart (text : List ℕ) (part : Part) (after : List ℕ) : Type 0 where
  pub whole : text ≡ part_text part ++ after
  pub fits : IsSpellable part

-- the text spells these parts, which are this many replies
pub record SpellsReplies (n : ℕ) (text : List ℕ) (parts : List Part) : Type 0 where
  pub spells : Spells text parts
  pub whole : AreReplies n parts

-- the text spells this many replies
abbrev pub AreSpelledReplies : ℕ → List ℕ → Type 0
AreSpelledReplies n text = (parts : List Part) × SpellsReplies n text parts
