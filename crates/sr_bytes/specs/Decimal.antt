-- Numbers in decimal digits, as entry ids, the headers of requests and the numbers of commands write them.
-- Source: Redis documentation, "Streams", section "Entry IDs", and the RESP2 protocol specification, "Integers".

use Rattle.std.specs.Prelude.{◌≡◌, ℕ, ◌<◌, ◌≤◌, List, length}
use Rattle.std.specs.Str.Parse.{AllDigits, digits_value}

-- digits write n: there is at least one and at most `most`, each is a digit, and their value is n
pub record IsDecimal (most : ℕ) (digits : List ℕ) (n : ℕ) : Type 0 where
  pub some : 0 < length digits
  pub few : length digits ≤ most
  pub each : AllDigits 10 digits
  pub value : digits_value 10 digits ≡ n
