-- Lists in order, and names in byte order.

use Rattle.std.specs.Prelude.{IsTrue, ℕ, List, ◌∷◌, ◌++◌, length, filter, Bool}
use Rattle.std.specs.List.{AllAdjacentBelow}
use Rattle.std.specs.Ordering.{is_lt, nat_cmp}
use Rattle.std.specs.Cmp.Lexicographic.{slice_cmp}

-- name a comes before name b, in byte order
abbrev pub comes_before : List ℕ → List ℕ → Bool
comes_before a b = is_lt (slice_cmp nat_cmp a b)

abbrev pub ComesBefore : List ℕ → List ℕ → Type 0
ComesBefore a b = IsTrue (comes_before a b)

-- each element comes before the next one, so that each is there once
abbrev pub AreInOrder : {X : Type 0} → (X → X → Type 0) → List X → Type 0
AreInOrder IsBefore xs = AllAdjacentBelow IsBefore xs (length xs)

-- the name among names in byte order: those before it, the name, and those after it
abbrev pub with_name : List ℕ → List (List ℕ) → List (List ℕ)
with_name name names =
    filter (λ other. comes_before other name) names ++ name ∷ filter (λ other. comes_before name other) names
