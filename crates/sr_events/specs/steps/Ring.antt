-- How a ring is stored. No public clause cites it.

use Rattle.std.specs.Prelude.{◌≡◌, ◌<◌, ℕ, Bool, List, length, true, false, slice_index_or, nat_eq}
use Rattle.std.specs.List.{IsDistinct, list_any}
use Rattle.circular_buffer.specs.Buffer.{Buffer}

-- no token is there twice, each is below the number of flags, and a flag is set exactly if its token is there
pub record IsRing (tokens : Buffer ℕ) (waits : List Bool) : Type 0 where
  pub capacity : tokens.capacity ≡ length waits
  pub distinct : IsDistinct nat_eq tokens.items
  pub below : (token : ℕ) → list_any (nat_eq token) tokens.items ≡ true → token < length waits
  pub exact : (token : ℕ) → token < length waits
      → slice_index_or waits token false ≡ list_any (nat_eq token) tokens.items
