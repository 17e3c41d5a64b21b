-- The first entries of those that are pending for the dead, if not all are to be moved.
-- Source: docs/LIVE.md.

use Rattle.std.specs.Prelude.{ℕ, ◌-◌, List, [], ◌∷◌, Option, Some, None, is_some, ◌==◌, if◌then◌else◌}
use Rattle.sr_ids.specs.declared.id.Id.{Id}
use Rattle.sr_live.specs.declared.looked.Row.{Row}

-- an entry before some first ones
abbrev pub with_row : Row → List Row × Option Id → List Row × Option Id
with_row row first = (row ∷ first.0, first.1)

-- the entries up to that one with which this many are stranded, at least one, and its id; all of them, and no id, if
-- fewer are
abbrev pub first_rows : ℕ → List Row → List Row × Option Id
first_rows n [] = ([], None)
first_rows n (row ∷ rows) =
    if is_some row.fields
    then (if n - 1 == 0 then (row ∷ [], Some row.id) else with_row row (first_rows (n - 1) rows))
    else with_row row (first_rows n rows)

-- the same, if a number is given, or else all
abbrev pub kept_rows : Option ℕ → List Row → List Row × Option Id
kept_rows None rows = (rows, None)
kept_rows (Some n) rows = first_rows n rows
