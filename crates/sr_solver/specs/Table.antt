-- The table of bounds: for each ordered pair of consumers, what the entries that stand at the one cost more at the
-- other, and for each wide consumer the same for each group of the entries that stand there. Sums are compared, never
-- differences: a bound is greater by the greatest charge than what it bounds.

use Rattle.std.specs.Prelude.{◌≡◌, ℕ, ◌+◌, ◌*◌, ◌<◌, ◌≤◌, List, length, slice_index_or, ◌⊎◌, Option, Some}
use Rattle.std.specs.Prelude.{None}
use Rattle.sr_transport.specs.{greatest_charge, Transport, consumers}
use Rattle.sr_solver.specs.Limits.{greatest_bound, unbounded, nobody}
use Rattle.sr_transport.specs.plain.Problem.{cost_of, IsAllowed}
use Rattle.sr_solver.specs.declared.table.Bound.{Bound}
use Rattle.sr_solver.specs.declared.table.Table.{Table}
pub use Rattle.sr_solver.specs.Groups.{IsAt}
use Rattle.sr_solver.specs.Groups.{AreLowsOf}

-- what stands in place q of a table
abbrev pub bound_at : List Bound → ℕ → Bound
bound_at table q = slice_index_or table q (record { low = 0; best = 0 })

-- what is known of entries that were never looked at: none costs less than the greatest cost less
abbrev pub unknown : Bound
unknown = record { low = 0; best = nobody }

-- what is known where no entry may go
abbrev pub no_entry : Bound
no_entry = record { low = unbounded; best = nobody }

-- entry k is among those that stand at consumer a, may go to b, and costs exactly `low` more there
pub record IsTight (p : Transport) (at : ℕ → Type 0) (a b low k : ℕ) : Type 0 where
  pub stands : at k
  pub allowed : IsAllowed p k b
  pub tight : low + cost_of p k a ≡ cost_of p k b + greatest_charge

-- what is known of the entries at a that may go to b: none costs less than `low` more at b, and the best, if it is an
-- entry, costs exactly this
pub record IsKnown (p : Transport) (at : ℕ → Type 0) (a b : ℕ) (known : Bound) : Type 0 where
  pub small : known.low ≤ unbounded
  pub below : (i : ℕ) → at i → IsAllowed p i b → known.low + cost_of p i a ≤ cost_of p i b + greatest_charge
  pub best : known.best < p.entries → IsTight p at a b known.low known.best

-- the best was found, unless no entry may go there
abbrev pub IsFound : Transport → Bound → Type 0
IsFound p found = (found.best < p.entries) ⊎ (greatest_bound < found.low)

-- in the row of consumer a, of n, no bound is above the greatest
abbrev pub IsSmallRow : ℕ → ℕ → List Bound → Type 0
IsSmallRow n a pairs = (b : ℕ) → b < n → (bound_at pairs (a * n + b)).low ≤ unbounded

-- what is known of each ordered pair, where `at a` says which entries stand at consumer a
pub record ArePairsOf (p : Transport) (at : ℕ → ℕ → Type 0) (pairs : List Bound) : Type 0 where
  pub each_pair : length pairs ≡ consumers p * consumers p
  pub each : (a b : ℕ) → a < consumers p → b < consumers p
      → IsKnown p (at a) a b (bound_at pairs (a * consumers p + b))

-- the same, where entry i stands at consumer xs[i]
abbrev pub ArePairs : Transport → List ℕ → List Bound → Type 0
ArePairs p xs pairs = ArePairsOf p (IsAt xs p.entries) pairs

-- the table, where `at a` says which entries stand at consumer a
pub record IsTableOf (p : Transport) (at : ℕ → ℕ → Type 0) (table : Table) : Type 0 where
  pub pairs : ArePairsOf p at table.pairs.items
  pub lows : AreLowsOf p at table.groups table.lows.items

-- the same, where entry i stands at consumer xs[i]
abbrev pub IsTable : Transport → List ℕ → Table → Type 0
IsTable p xs table = IsTableOf p (IsAt xs p.entries) table

-- where the entries stand while entry i stands nowhere
abbrev pub IsApart : (ℕ → ℕ → Type 0) → ℕ → ℕ → ℕ → Type 0
IsApart at i a j = at a j × (j ≡ i → ⊥)

-- what an entry that left leaves of what was known: it is not the best any more
pub record IsWithout (entry : ℕ) (old new : Bound) : Type 0 where
  pub low : new.low ≡ old.low
  pub best : (new.best ≡ nobody) ⊎ ((new.best ≡ old.best) × (old.best ≡ entry → ⊥))

-- what was known is a bound for an entry that comes, too
pub record IsStill (here there : ℕ) (old new : Bound) : Type 0 where
  pub same : new ≡ old
  pub below : old.low + here ≤ there + greatest_charge

-- or it is the new best
pub record IsBest (entry here there : ℕ) (old new : Bound) : Type 0 where
  pub best : new.best ≡ entry
  pub tight : new.low + here ≡ there + greatest_charge
  pub lower : there + greatest_charge ≤ old.low + here

-- what is known once an entry has come that costs `here` where it stands, and `there` at the other consumer
abbrev pub IsLowered : ℕ → ℕ → Option ℕ → Bound → Bound → Type 0
IsLowered entry here None old new = new ≡ old
IsLowered entry here (Some there) old new = IsStill here there old new ⊎ IsBest entry here there old new

-- of one row of a table of n columns, the first places changed, each as `to` says
pub record IsRowChanged (n a upto : ℕ) (to : ℕ → Bound → Bound → Type 0)
    (old new : List Bound) : Type 0 where
  pub one_each : length new ≡ length old
  pub row : (b : ℕ) → b < upto → to b (bound_at old (a * n + b)) (bound_at new (a * n + b))
  pub others : (q : ℕ) → (q < a * n) ⊎ (a * n + upto ≤ q) → bound_at new q ≡ bound_at old q

-- what is known, exactly, of the entries at a that may go to b, None where none may
abbrev pub IsMover : Transport → (ℕ → Type 0) → ℕ → ℕ → Option Bound → Type 0
IsMover p at a b None = (i : ℕ) → at i → IsAllowed p i b → ⊥
IsMover p at a b (Some known) = IsKnown p at a b known × (known.best < p.entries)
