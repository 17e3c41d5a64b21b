-- Requests, and how RESP2 spells them: an array of bulk strings, with limits on its size.
-- Source: RESP2 protocol specification, "Sending commands to a Redis server", "Arrays" and "Bulk strings".

use Rattle.std.specs.Prelude.{◌≡◌, ℕ, ◌<◌, ◌≤◌, ◌⊎◌, List, [], ◌∷◌, ◌++◌, Option, Some, None, length, codes, sum_by}
use Rattle.sr_bytes.specs.{IsDecimal}
use Rattle.sr_resp.specs.Reply.{line_end}

-- what a request says: its words
abbrev pub Words : Type 0
Words = List (List ℕ)

-- the line before a word or an array: its mark, and how many bytes or words follow
abbrev pub header : List ℕ → List ℕ → List ℕ
header mark digits = mark ++ digits ++ line_end

-- a word: the number of its bytes, at most 1,048,576, and the bytes
pub record IsWord (text word : List ℕ) : Type 0 where
  pub digits : List ℕ
  pub number : IsDecimal 10 digits (length word)
  pub short : length word ≤ 1048576
  pub spelled : text ≡ header (codes "$") digits ++ word ++ line_end

-- words, one after another
abbrev pub AreWords : List ℕ → Words → Type 0
AreWords text [] = text ≡ []
AreWords text (word ∷ words) =
    (front : List ℕ) × (behind : List ℕ) × IsWord front word × AreWords behind words × (text ≡ front ++ behind)

-- a request: the number of its words, from 1 to 4,096, and the words, which have at most 16,777,216 bytes in all
pub record IsRequest (text : List ℕ) (words : Words) : Type 0 where
  pub digits : List ℕ
  pub body : List ℕ
  pub number : IsDecimal 10 digits (length words)
  pub some : 0 < length words
  pub few : length words ≤ 4096
  pub small : sum_by length words ≤ 16777216
  pub each : AreWords body words
  pub spelled : text ≡ header (codes "*") digits ++ body

-- an empty command: an array without words, which gets no reply
pub record IsEmpty (text : List ℕ) : Type 0 where
  pub digits : List ℕ
  pub number : IsDecimal 10 digits 0 ⊎ (digits ≡ codes "-1")
  pub spelled : text ≡ header (codes "*") digits

-- the text spells a request, or an empty command
abbrev pub Spells : List ℕ → Option Words → Type 0
Spells text (Some words) = IsRequest text words
Spells text None = IsEmpty text
