-- The members of each consumer: the entries that stand there, in one list with a row for each consumer. Rows are of one
-- width. A row begins with how many members follow.

use Rattle.std.specs.Prelude.{◌≡◌, ℕ, ◌+◌, ◌*◌, ◌<◌, ◌≤◌, List, length, slice_index, ◌⊎◌}
use Rattle.sr_transport.specs.{Transport, consumers}
use Rattle.sr_transport.specs.plain.Problem.{room_of}
use Rattle.sr_transport.specs.plain.Assignment.{load}
use Rattle.sr_solver.specs.declared.table.Bound.{Bound}
use Rattle.sr_solver.specs.Table.{IsAt, IsKnown, bound_at}

-- entry i is among the first n members of the row that begins at `row`
abbrev pub IsListed : List ℕ → ℕ → ℕ → ℕ → Type 0
IsListed members row n i = (j : ℕ) × (j < n) × (slice_index members (row + 1 + j) ≡ i)

-- no entry stands twice among the first n members of the row that begins at `row`
abbrev pub AreApart : List ℕ → ℕ → ℕ → Type 0
AreApart members row n =
    (j k : ℕ) → j < k → k < n → slice_index members (row + 1 + j) ≡ slice_index members (row + 1 + k) → ⊥

-- entry i stands at a, and is among the first n members of the row
abbrev pub IsSeen : Transport → List ℕ → List ℕ → ℕ → ℕ → ℕ → ℕ → Type 0
IsSeen p xs members row n a i = IsAt xs p.entries a i × IsListed members row n i

-- of the row of consumer a in the table, what is known of the first n members of the row of members that begins at
-- `row`; the other rows of the table are as before
pub record AreLookedThrough (p : Transport) (xs members : List ℕ) (row n a : ℕ) (old new : List Bound) : Type 0
  where
    pub one_each : length new ≡ length old
    pub row_known : (b : ℕ) → b < consumers p
        → IsKnown p (IsSeen p xs members row n a) a b (bound_at new (a * consumers p + b))
    pub others : (q : ℕ) → (q < a * consumers p) ⊎ (a * consumers p + consumers p ≤ q)
        → bound_at new q ≡ bound_at old q

-- rows of w numbers are wide enough for the members that any consumer can have, and no wider than for all entries
pub record AreWide (p : Transport) (w : ℕ) : Type 0 where
  pub some : 0 < w
  pub enough : (c n : ℕ) → c < consumers p → n ≤ room_of p c → n ≤ p.entries → n < w
  pub short : w ≤ p.entries + 1

-- the members in rows of w numbers, where `at c` says which entries stand at consumer c, and `count c` how many
pub record AreMembersOf (p : Transport) (w : ℕ) (count : ℕ → ℕ) (at : ℕ → ℕ → Type 0) (members : List ℕ) : Type 0 where
  pub one_each : length members ≡ consumers p * w
  pub short : w ≤ p.entries + 1
  pub counted : (c : ℕ) → c < consumers p → slice_index members (c * w) ≡ count c
  pub fits : (c : ℕ) → c < consumers p → count c < w
  pub stands : (c j : ℕ) → c < consumers p → j < count c → at c (slice_index members (c * w + 1 + j))
  pub apart : (c : ℕ) → c < consumers p → AreApart members (c * w) (count c)
  pub each : (c i : ℕ) → c < consumers p → at c i → IsListed members (c * w) (count c) i

-- the same, where entry i stands at consumer xs[i]
abbrev pub AreMembers : Transport → ℕ → List ℕ → List ℕ → Type 0
AreMembers p w xs members = AreMembersOf p w (load xs) (IsAt xs p.entries) members

-- a member was taken out of the row that begins at `row`
pub record IsRemoved (row entry : ℕ) (old new : List ℕ) : Type 0 where
  pub one_each : length new ≡ length old
  pub count : slice_index new row + 1 ≡ slice_index old row
  pub others : (q : ℕ) → (q < row) ⊎ (row + slice_index old row < q) → slice_index new q ≡ slice_index old q
  pub from : (j : ℕ) → j < slice_index new row → IsListed old row (slice_index old row) (slice_index new (row + 1 + j))
  pub kept : (j : ℕ) → j < slice_index old row → (slice_index old (row + 1 + j) ≡ entry → ⊥)
      → IsListed new row (slice_index new row) (slice_index old (row + 1 + j))
  pub gone : (j : ℕ) → j < slice_index new row → slice_index new (row + 1 + j) ≡ entry → ⊥
  pub apart : AreApart new row (slice_index new row)
