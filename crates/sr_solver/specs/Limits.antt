-- The limits of what a search adds up. Those of a problem and of its answers are in sr_transport.

use Rattle.std.specs.Prelude.{ℕ, ◌*◌, ◌^◌}
use Rattle.sr_transport.specs.{greatest_charge, greatest_price}

-- prices, and lengths of paths, while entries are placed: so small that any four of them can be added up
abbrev pub greatest_way : ℕ
greatest_way = 2 * greatest_price

-- a bound of the table: a difference of two costs, with the greatest charge added
abbrev pub greatest_bound : ℕ
greatest_bound = 2 * greatest_charge

-- the bound where no entry may go
abbrev pub unbounded : ℕ
unbounded = 2 ^ 63

-- the best entry where none is known
abbrev pub nobody : ℕ
nobody = 2 ^ 32

-- greater than any sum that is compared with the length of a path
abbrev pub far : ℕ
far = 2 ^ 63

-- how many entries in a row make a group
abbrev pub group_size : ℕ
group_size = 64

-- a consumer with more room than this has bounds for each group of its entries
abbrev pub narrow_room : ℕ
narrow_room = 128
