-- Numbers among the words of a command: of 64 bits, with a sign if they are below 0.
-- Source: Redis documentation, "Data types" (integers are signed and of 64 bits), and the page of XRANGE, "COUNT".

use Rattle.std.specs.Prelude.{◌≡◌, ℕ, ◌^◌, ◌<◌, ◌≤◌, List, ◌++◌, codes, ℤ, pos, neg_ℤ, ◌≤ℤ◌}
use Rattle.sr_bytes.specs.{IsDecimal}
use Rattle.sr_args.specs.declared.number.CountRange.{CountRange}
use Rattle.sr_args.specs.declared.number.CountRange.TheVariants.{Any, FromOne}

-- the word writes the number in 1 to 19 digits, after a "-" if it is below 0; "-0" is 0
pub data IsInt (word : List ℕ) (z : ℤ) : Type 0 where
  positive : (n : ℕ) → IsDecimal 19 word n → n < 2 ^ 63 → z ≡ pos n → IsInt word z
  negative : (digits : List ℕ) (n : ℕ) → word ≡ codes "-" ++ digits → IsDecimal 19 digits n → n ≤ 2 ^ 63
      → z ≡ neg_ℤ (pos n) → IsInt word z

-- the word writes a number that is not below 0
abbrev pub IsNat : List ℕ → ℕ → Type 0
IsNat word n = IsInt word (pos n)

-- the word writes a number that is 1 or more
abbrev pub IsFromOne : List ℕ → ℤ → Type 0
IsFromOne word z = IsInt word z × (pos 1 ≤ℤ z)

-- how many rounds a recovery may make at most
abbrev pub most_tries : ℕ
most_tries = 16

-- the word writes a number of rounds: from 1 to 16
abbrev pub IsTries : List ℕ → ℕ → Type 0
IsTries word n = IsNat word n × (1 ≤ n) × (n ≤ most_tries)

-- the word writes a number that COUNT takes
abbrev pub IsCount : CountRange → List ℕ → ℤ → Type 0
IsCount Any word z = IsInt word z
IsCount FromOne word z = IsFromOne word z
