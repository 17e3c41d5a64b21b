-- How many files a server for connections needs, and whether the process may open that many.

use Rattle.std.specs.Prelude.{◌≤◌, ◌<◌, ◌+◌, ℕ, Bool, IsTrue, Option, Some, IfSome}
use Rattle.sr_options.specs.declared.way.Way.{Way}
use Rattle.sr_options.specs.declared.way.Way.TheVariants as ways

-- a loop needs one file for each connection, and 16 more. The network may tell that the process may open as many, or
-- that it does not know. For workers nothing is asked
abbrev pub HasFiles : (Option ℕ → Bool) → Way → Type 0
HasFiles may_open (ways.Workers working) = Unit {0}
HasFiles may_open (ways.Loop looping) = (most : Option ℕ) × IsTrue (may_open most)
    × IfSome most (λ number. looping.connections + 16 ≤ number)

-- the network may tell that the process may not open as many files as a loop needs
abbrev pub LacksFiles : (Option ℕ → Bool) → Way → Type 0
LacksFiles may_open (ways.Workers working) = ⊥
LacksFiles may_open (ways.Loop looping) = (most : ℕ) × IsTrue (may_open (Some most))
    × (most < looping.connections + 16)
