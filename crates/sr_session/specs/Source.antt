-- Where a session's bytes come from: how often it was read.

use Rattle.std.specs.Prelude.{◌≡◌, ℕ, ◌+◌, ⊤, Option, Some, None}

-- where the number of reads is known, it grew by so many
abbrev pub CountsReads : Option ℕ → Option ℕ → ℕ → Type 0
CountsReads None new reads = ⊤
CountsReads (Some old) None reads = ⊥
CountsReads (Some old) (Some new) reads = new ≡ old + reads
