-- The limits of a problem and of its answers, each named once.

use Rattle.std.specs.Prelude.{ℕ, ◌*◌, ◌^◌}

-- consumers of a problem
abbrev pub most_consumers : ℕ
most_consumers = 64

-- tiers of a problem: two for each consumer
abbrev pub most_tiers : ℕ
most_tiers = 128

-- entries of a problem
abbrev pub most_entries : ℕ
most_entries = 4096

-- how many entries a tier may have room for
abbrev pub greatest_room : ℕ
greatest_room = 1000000000

-- what a pair may cost
abbrev pub greatest_cost : ℕ
greatest_cost = 2 ^ 40

-- what a tier may cost beyond the pair
abbrev pub greatest_fee : ℕ
greatest_fee = 2 ^ 40

-- what an entry may be charged in a tier: a cost and a fee, 2 ^ 41
abbrev pub greatest_charge : ℕ
greatest_charge = 2 * 2 ^ 40

-- what an assignment may cost: the greatest charge for each entry, 2 ^ 53
abbrev pub greatest_total : ℕ
greatest_total = most_entries * greatest_charge

-- what the price of a tier may rise by when an entry is placed: the greatest charge for each tier, 2 ^ 48
abbrev pub greatest_rise : ℕ
greatest_rise = most_tiers * greatest_charge

-- the price of a tier in an answer of the solver: the greatest rise for each entry, 2 ^ 60
abbrev pub greatest_price : ℕ
greatest_price = most_entries * greatest_rise
