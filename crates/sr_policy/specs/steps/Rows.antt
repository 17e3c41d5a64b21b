-- The rates of all classes as a table: a row for each class, with the rate of each consumer. Only private clauses cite
-- this.

use Rattle.std.specs.Prelude.{◌≡◌, ℕ, List, map, Option, Some, IfSome, slice_get}
use Rattle.sr_policy.specs.declared.rows.Column.{Column}
use Rattle.sr_policy.specs.Rules.{Text, value_at}

-- the rate of each consumer for a class with these rates
abbrev pub row_by : List Text → List (Text × ℕ) → List (Option ℕ)
row_by consumers rates = map (λ consumer. value_at consumer rates) consumers

-- the rows of these classes
abbrev pub rows_by : List Text → List (Text × List (Text × ℕ)) → List (List (Option ℕ))
rows_by consumers classes = map (λ class. row_by consumers class.1) classes

-- the rates of a class, and the consumers whose rates are at the same places in its row
pub record RowState : Type 0 where
  pub consumers : List Text
  pub rates : List (Text × ℕ)

-- the consumer of the column is at its place among these, if it has one
abbrev pub IsColumn : List Text → Column → Type 0
IsColumn consumers column = IfSome column.place (λ place. slice_get consumers place ≡ Some column.consumer.now)
