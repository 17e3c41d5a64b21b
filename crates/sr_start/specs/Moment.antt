-- What the system's clock tells.

use Rattle.std.specs.Prelude.{ℕ, Bool, true}

-- the system's clock may tell any moment
abbrev pub any_moment : ℕ → Bool
any_moment told = true
