-- The earliest moment as a listing is walked. No public clause cites it.

use Rattle.std.specs.Prelude.{ℕ, Option, Some, None}
use Rattle.sr_group.specs.Group.{earlier}

-- the earlier of two moments, where there may be neither
abbrev pub earlier_of : Option ℕ → Option ℕ → Option ℕ
earlier_of None other = other
earlier_of (Some time) other = earlier time other
