-- Replies of another server, and how RESP2 spells them and the requests to it.
-- Source: RESP2 protocol specification, "RESP protocol description".

use Rattle.std.specs.Prelude.{◌≡◌, ◌≢◌, ℕ, zero, suc, ◌+◌, ◌<◌, ◌≤◌, ◌^◌, ℤ, List, [], ◌∷◌, ◌++◌, length, codes}
use Rattle.std.specs.Prelude.{decimal}
use Rattle.std.specs.Fmt.{signed_decimal}
use Rattle.std.specs.List.{AllByRecursion, flat_map}
use lib.Signed.{mag}
use Rattle.sr_resp.specs.Reply.{line_end}

-- one part of a reply, as it is sent; an array is a header followed by its items. A simple string and an error are any
-- text of one line
pub data Part : Type 0 where
  Simple : List ℕ → Part
  Error : List ℕ → Part
  Int : ℤ → Part
  Bulk : List ℕ → Part
  NullBulk : Part
  NullArray : Part
  Array : ℕ → Part

-- how many replies have to follow a part: the items of an array, and none after any other part
abbrev pub items_of : Part → ℕ
items_of (Array items) = items
items_of _ = 0

-- the parts are this many replies, one after another, and each array has its items
abbrev pub AreReplies : ℕ → List Part → Type 0
AreReplies n [] = n ≡ 0
AreReplies zero (part ∷ parts) = ⊥
AreReplies (suc n) (part ∷ parts) = AreReplies (items_of part + n) parts

-- how a part is spelled
abbrev pub part_text : Part → List ℕ
part_text (Simple text) = codes "+" ++ text ++ line_end
part_text (Error text) = codes "-" ++ text ++ line_end
part_text (Int n) = codes ":" ++ signed_decimal n ++ line_end
part_text (Bulk bytes) = codes "$" ++ decimal (length bytes) ++ line_end ++ bytes ++ line_end
part_text NullBulk = codes "$-1\r\n"
part_text NullArray = codes "*-1\r\n"
part_text (Array items) = codes "*" ++ decimal items ++ line_end

-- a text of one line: no carriage return and no line feed
abbrev pub IsOneLine : List ℕ → Type 0
IsOneLine text = AllByRecursion (λ byte. (byte ≢ 13) × (byte ≢ 10)) text

-- such a text of at most 65,536 bytes
pub record IsText (text : List ℕ) : Type 0 where
  pub one : IsOneLine text
  pub short : length text ≤ 65536

-- a text is of one line, and a number fits 64 bits, an integer with its sign
abbrev pub IsSpellable : Part → Type 0
IsSpellable (Simple text) = IsText text
IsSpellable (Error text) = IsText text
IsSpellable (Int n) = mag n < 2 ^ 63
IsSpellable (Bulk bytes) = length bytes < 2 ^ 64
IsSpellable NullBulk = Unit {0}
IsSpellable NullArray = Unit {0}
IsSpellable (Array items) = items < 2 ^ 64

-- the text spells this many replies, which have these parts, and nothing more
pub record Spell (count : ℕ) (text : List ℕ) (parts : List Part) : Type 0 where
  pub replies : AreReplies count parts
  pub spellable : AllByRecursion IsSpellable parts
  pub spelled : text ≡ flat_map part_text parts

-- a request is an array of bulk strings
abbrev pub request_text : List (List ℕ) → List ℕ
request_text words = part_text (Array (length words)) ++ flat_map (λ word. part_text (Bulk word)) words
