-- A problem with tiers as one without: a column for each tier, with its room and what each entry is charged there.

use Rattle.std.specs.Prelude.{ℕ, List, length, map, Option}
use Rattle.std.specs.List.{flat_map, range_with_len}
use Rattle.sr_transport.specs.Problem.{Tiered}
use Rattle.sr_transport.specs.Assignment.{charge_at}
use Rattle.sr_transport.specs.plain.Problem.{Transport}

-- what entry i is charged in each tier
abbrev pub charges_of : Tiered → ℕ → List (Option ℕ)
charges_of p i = map (charge_at p i) (range_with_len 0 (length p.tiers))

-- the charges of all entries, row by entry
abbrev pub charges : Tiered → List (Option ℕ)
charges p = flat_map (charges_of p) (range_with_len 0 p.entries)

abbrev pub by_tier : Tiered → Transport
by_tier p = record { rooms = map (λ tier. tier.room) p.tiers; entries = p.entries; costs = charges p }
