-- A part is a mark, a line, and what comes after it: what the code finds of these. Only private clauses cite this.
-- Source: RESP2 protocol specification, "RESP protocol description".

use Rattle.std.specs.Prelude.{◌≡◌, ℕ, ◌<◌, ◌^◌, ◌⊎◌, List, [], ◌∷◌, ◌++◌, length, decimal}
use Rattle.sr_peer.specs.declared.line.Header.{Header}
use Rattle.sr_peer.specs.declared.line.Header.TheVariants as headers
use Rattle.sr_peer.specs.declared.first.End.{End}
use Rattle.sr_peer.specs.declared.first.End.TheVariants as ends
use Rattle.sr_peer.specs.Reply.{Part, Bulk, IsSpellable}
use Rattle.sr_peer.specs.Shown.{part_of}
use Rattle.sr_peer.specs.steps.OneSpelling.{mark, line}

-- the part has this mark and this line
pub record HasForm (sign : ℕ) (text : List ℕ) (part : Part) : Type 0 where
  pub marked : mark part ≡ sign
  pub lined : line part ≡ text
  pub fits : IsSpellable part

-- the line is all of the part
abbrev pub IsLineAlone : Part → Type 0
IsLineAlone (Bulk bytes) = ⊥
IsLineAlone _ = Unit {0}

-- the line after this mark says this
abbrev pub Says : ℕ → List ℕ → Header → Type 0
Says sign text (headers.Part part) = HasForm sign text (part_of part) × IsLineAlone (part_of part)
Says sign text (headers.Length len) = (sign ≡ 36) × (decimal len ≡ text) × (len < 2 ^ 64)

-- no part has this mark and this line
abbrev pub SaysNothing : ℕ → List ℕ → Type 0
SaysNothing sign text = (part : Part) → HasForm sign text part → ⊥

-- the line of a part with this mark begins with the text
pub record BeginsLine (sign : ℕ) (text : List ℕ) : Type 0 where
  pub more : List ℕ
  pub part : Part
  pub form : HasForm sign (text ++ more) part

-- the mark is that of a number, and no more than a sign has come of it
abbrev pub BeginsNumber : ℕ → List ℕ → Type 0
BeginsNumber sign text =
    ((sign ≡ 58) ⊎ (sign ≡ 36) ⊎ (sign ≡ 42)) × ((text ≡ []) ⊎ (text ≡ 45 ∷ []))

-- what the bytes are of the end of a line
abbrev pub Ends : List ℕ → End → Type 0
Ends bytes (ends.Whole after) = bytes ≡ 13 ∷ 10 ∷ after.now
Ends bytes (ends.Begun least) =
    (0 < least) × ((more : List ℕ) × (length more ≡ least) × (bytes ++ more ≡ 13 ∷ 10 ∷ []))
Ends bytes ends.Wrong = (more after : List ℕ) → bytes ++ more ≡ 13 ∷ 10 ∷ after → ⊥
