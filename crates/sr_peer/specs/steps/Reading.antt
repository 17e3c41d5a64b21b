-- How far replies have been read, part by part. Only private clauses and an invariant cite this.
-- Source: RESP2 protocol specification, "RESP protocol description".

use Rattle.std.specs.Prelude.{◌≡◌, ℕ, ◌<◌, ◌≤◌, ◌↔◌, Result, Ok, Err, List, [], ◌++◌, length, drop}
use Rattle.sr_peer.specs.declared.answers.ReadSoFar.{ReadSoFar}
use Rattle.sr_peer.specs.declared.answers.TakeFault.{TakeFault}
use Rattle.sr_peer.specs.declared.answers.TakeFault.TheVariants as faults
use Rattle.sr_peer.specs.declared.first.Front.{Front}
use Rattle.sr_peer.specs.declared.first.Front.TheVariants as fronts
use Rattle.sr_peer.specs.Arriving.{AreWhole, most_bytes}
use Rattle.sr_peer.specs.Reply.{Part, IsSpellable, part_text}
use Rattle.sr_peer.specs.Shown.{part_of}

-- the text begins with the spelling of this part, and these bytes come after it
pub record HasPart (text : List ℕ) (part : Part) (after : List ℕ) : Type 0 where
  pub whole : text ≡ part_text part ++ after
  pub fits : IsSpellable part

-- whatever comes after it, the text does not begin with a part
abbrev pub IsWrong : List ℕ → Type 0
IsWrong text = (more : List ℕ) (part : Part) (after : List ℕ) → HasPart (text ++ more) part after → ⊥

-- with some bytes more the text is a part, and it begins with one only after this many more
pub record IsBegun (text : List ℕ) (least : ℕ) : Type 0 where
  pub more : List ℕ
  pub part : Part
  pub whole : HasPart (text ++ more) part []
  pub some : 0 < least
  pub needed : (more : List ℕ) (part : Part) (after : List ℕ) → HasPart (text ++ more) part after
      → least ≤ length more

-- what the text begins with
abbrev pub BeginsWith : List ℕ → Front → Type 0
BeginsWith text (fronts.Whole part after) = HasPart text (part_of part) after.now
BeginsWith text (fronts.Begun least) = IsBegun text least
BeginsWith text fronts.Wrong = IsWrong text

-- this many replies of a text have come so far, if these are left: nothing, or the beginning of a part
pub record AreLeft (due : ℕ) (left : List ℕ) : Type 0 where
  pub none : due ≡ 0 → left ≡ []
  pub some : 0 < due → (least : ℕ) × IsBegun left least

-- whatever comes after them, the one text spells its replies exactly if the other spells its own
abbrev pub AreAlike : ℕ → List ℕ → ℕ → List ℕ → Type 0
AreAlike count text due left = (more : List ℕ) → AreWhole count (text ++ more) ↔ AreWhole due (left ++ more)

-- the replies were read up to this place
pub record AreRead (count : ℕ) (text : List ℕ) (at due : ℕ) : Type 0 where
  pub within : at ≤ length text
  pub short : length text ≤ most_bytes
  pub alike : AreAlike count text due (drop at text)
  pub left : AreLeft due (drop at text)

-- what reading on from a place came to
abbrev pub ReadsOn : List ℕ → ℕ → ℕ → Result ReadSoFar TakeFault → Type 0
ReadsOn text at due (Ok place) =
    (place.at ≤ length text) × AreAlike due (drop at text) place.due (drop place.at text)
    × AreLeft place.due (drop place.at text)
ReadsOn text at due (Err faults.Memory) = ⊥
ReadsOn text at due (Err faults.Malformed) = (more : List ℕ) → AreWhole due (drop at text ++ more) → ⊥
ReadsOn text at due (Err faults.TooLong) = (more : List ℕ) → AreWhole due (drop at text ++ more)
    → most_bytes < length (text ++ more)

-- the same, where the text may have been too long or have had no room
abbrev pub GrowsOn : List ℕ → ℕ → ℕ → Result ReadSoFar TakeFault → Type 0
GrowsOn text at due (Ok place) = ReadsOn text at due (Ok place)
GrowsOn text at due (Err faults.Memory) = Unit {0}
GrowsOn text at due (Err faults.Malformed) = ReadsOn text at due (Err faults.Malformed)
GrowsOn text at due (Err faults.TooLong) = ReadsOn text at due (Err faults.TooLong)
