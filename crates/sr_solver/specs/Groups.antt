-- The bounds by group: for each ordered pair of consumers of which the first is wide, and each group of entries, what
-- those of the group that stand at the one cost more at the other, with the greatest charge added.

use Rattle.std.specs.Prelude.{◌≡◌, ℕ, ◌+◌, ◌-◌, ◌*◌, ◌<◌, ◌≤◌, List, length, slice_index}
use Rattle.sr_solver.specs.declared.groups.Groups.{Groups}
use Rattle.sr_transport.specs.{most_entries, greatest_charge, Transport, consumers}
use Rattle.sr_solver.specs.Limits.{group_size, narrow_room}
use Rattle.sr_transport.specs.plain.Problem.{room_of, cost_of, IsAllowed}

-- of the first n entries, entry i stands at consumer a
abbrev pub IsAt : List ℕ → ℕ → ℕ → ℕ → Type 0
IsAt xs n a i = (i < n) × (slice_index xs i ≡ a)

-- entry i is in group g
abbrev pub IsInGroup : ℕ → ℕ → Type 0
IsInGroup g i = (g * group_size ≤ i) × (i < g * group_size + group_size)

-- entry i stands at consumer a, and is not before the entry `first`, but before the entry `end`
abbrev pub IsBetween : List ℕ → ℕ → ℕ → ℕ → ℕ → ℕ → Type 0
IsBetween xs n a first end i = IsAt xs n a i × (first ≤ i) × (i < end)

-- entry i of group g stands at consumer a
abbrev pub IsAtIn : List ℕ → ℕ → ℕ → ℕ → ℕ → Type 0
IsAtIn xs n a g i = IsBetween xs n a (g * group_size) (g * group_size + group_size) i

-- each entry is in a group, and each wide consumer in the span
pub record AreGroups (p : Transport) (groups : Groups) : Type 0 where
  pub few : groups.count ≤ most_entries
  pub enough : p.entries < groups.count * group_size
  pub within : groups.first + groups.span ≤ consumers p
  pub spanned : (a : ℕ) → a < consumers p → narrow_room < room_of p a
      → (groups.first ≤ a) × (a < groups.first + groups.span)

-- where the row of bounds of consumer a, of the span, and consumer b of n begins
abbrev pub low_row : ℕ → Groups → ℕ → ℕ → ℕ
low_row n groups a b = ((a - groups.first) * n + b) * groups.count

-- the bounds of these groups, where `at a` says which entries stand at consumer a: of those in a group that stand at
-- a wide consumer, none costs less than the bound more at the other one
pub record AreLowsOf (p : Transport) (at : ℕ → ℕ → Type 0) (groups : Groups) (lows : List ℕ) : Type 0 where
  pub each_group : length lows ≡ consumers p * groups.span * groups.count
  pub grouped : AreGroups p groups
  pub below : (a b g i : ℕ) → a < consumers p → b < consumers p → g < groups.count → narrow_room < room_of p a → at a i
      → IsInGroup g i → IsAllowed p i b
      → slice_index lows (low_row (consumers p) groups a b + g) + cost_of p i a ≤ cost_of p i b + greatest_charge

-- the bounds once entry i has come to consumer a: none has risen, and those of its group hold for it, too
pub record AreLowered (p : Transport) (a i : ℕ) (groups : Groups) (old new : List ℕ) : Type 0 where
  pub each_group : length new ≡ length old
  pub none_higher : (q : ℕ) → slice_index new q ≤ slice_index old q
  pub below : (b g : ℕ) → b < consumers p → narrow_room < room_of p a → IsInGroup g i → IsAllowed p i b
      → slice_index new (low_row (consumers p) groups a b + g) + cost_of p i a ≤ cost_of p i b + greatest_charge
