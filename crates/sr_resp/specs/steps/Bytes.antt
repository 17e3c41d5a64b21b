-- How the bytes of a bulk string are kept. Only private clauses cite this.

use Rattle.std.specs.Prelude.{ℕ, ◌≤◌, List, take}
use Rattle.sr_ids.specs.Spelling.{spelling}
use Rattle.sr_resp.specs.declared.bytes.Kept.{Kept}
use Rattle.sr_resp.specs.declared.bytes.Kept.TheVariants as kept

abbrev pub bytes_of : Kept → List ℕ
bytes_of (kept.Short text len) = take len text
bytes_of (kept.Long name) = name
bytes_of (kept.Id id) = spelling id

-- no more bytes are kept in place than there is room for
abbrev pub IsInPlace : Kept → Type 0
IsInPlace (kept.Short text len) = len ≤ 23
IsInPlace (kept.Long name) = Unit {0}
IsInPlace (kept.Id id) = Unit {0}
