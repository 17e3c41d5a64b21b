-- Words between double quotes, as redis-cli prints and takes them.
-- Source: Redis documentation, "Redis CLI", section "String quoting and escaping".

use Rattle.std.specs.Prelude.{◌≡◌, ◌≢◌, ◌⊎◌, ℕ, ◌+◌, ◌*◌, ◌<◌, List, [], ◌∷◌, ◌++◌, Option, Some, false, All, nat_eq}
use Rattle.std.specs.Char.{digit_value, is_ascii_whitespace}
use Rattle.std.specs.Map.{lookup}

-- what a backslash and each of these bytes spell: quotes, a backslash, a line feed, a carriage return, a tab, a bell,
-- a backspace
abbrev pub escapes : List (ℕ × ℕ)
escapes = (34, 34) ∷ (92, 92) ∷ (110, 10) ∷ (114, 13) ∷ (116, 9) ∷ (97, 7) ∷ (98, 8) ∷ []

-- what a backslash and this byte spell, if anything
abbrev pub escaped : ℕ → Option ℕ
escaped mark = lookup (nat_eq mark) escapes

-- the byte stands for itself: it is neither quotes nor a backslash
pub record IsPlain (text : List ℕ) (byte : ℕ) (after : List ℕ) : Type 0 where
  pub whole : text ≡ byte ∷ after
  pub no_quotes : byte ≢ 34
  pub no_backslash : byte ≢ 92

-- a backslash and a letter or a mark
pub record IsEscape (text : List ℕ) (byte : ℕ) (after : List ℕ) : Type 0 where
  pub mark : ℕ
  pub whole : text ≡ 92 ∷ mark ∷ after
  pub value : escaped mark ≡ Some byte

-- a backslash, an x and two hexadecimal digits
pub record IsHex (text : List ℕ) (byte : ℕ) (after : List ℕ) : Type 0 where
  pub high : ℕ
  pub low : ℕ
  pub whole : text ≡ 92 ∷ 120 ∷ high ∷ low ∷ after
  pub high_digit : digit_value high < 16
  pub low_digit : digit_value low < 16
  pub value : digit_value high * 16 + digit_value low ≡ byte

-- the text begins with the spelling of the byte, and these bytes come after it
abbrev pub HasByte : List ℕ → ℕ → List ℕ → Type 0
HasByte text byte after = IsPlain text byte after ⊎ IsEscape text byte after ⊎ IsHex text byte after

-- the text begins with the spelling of these bytes and closing quotes, and these bytes come after them
abbrev pub HasQuoted : List ℕ → List ℕ → List ℕ → Type 0
HasQuoted text [] after = text ≡ 34 ∷ after
HasQuoted text (byte ∷ bytes) after = (left : List ℕ) × HasByte text byte left × HasQuoted left bytes after

-- the text begins with the word, in double quotes
pub record IsQuoted (text word after : List ℕ) : Type 0 where
  pub quoted : List ℕ
  pub opened : text ≡ 34 ∷ quoted
  pub closed : HasQuoted quoted word after

-- the text begins with the word as it is, none of whose bytes is a blank
pub record IsBare (text word after : List ℕ) : Type 0 where
  pub whole : text ≡ word ++ after
  pub no_blank : All (λ byte. is_ascii_whitespace byte ≡ false) word

-- the text begins with the word, and these bytes come after it
abbrev pub HasWord : List ℕ → List ℕ → List ℕ → Type 0
HasWord text word after = IsQuoted text word after ⊎ IsBare text word after
