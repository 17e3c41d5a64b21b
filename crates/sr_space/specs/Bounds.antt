-- Numbers that a reply can hold.

use Rattle.std.specs.Prelude.{ℕ, ◌-◌, ◌^◌, min}

-- the number, or the greatest one of 63 bits if it is above that: so a moment or a count is read
abbrev pub in_63_bits : ℕ → ℕ
in_63_bits n = min n (2 ^ 63 - 1)
