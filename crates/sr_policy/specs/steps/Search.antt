-- Where a search among names in byte order ends. Only private clauses cite this.

use Rattle.std.specs.Prelude.{◌≡◌, ℕ, true, false, List}
use Rattle.std.specs.List.Sorted.{IsPartitionPoint}
use Rattle.sr_bytes.specs.{comes_before}
use Rattle.sr_policy.specs.Rules.{Text}

-- the elements below the place have names that come before this one, and no others do
abbrev pub IsPlace : {X : Type 0} → (X → Text) → Text → List X → ℕ → Type 0
IsPlace name_of name xs place =
    IsPartitionPoint (λ x. comes_before (name_of x) name ≡ true) (λ x. comes_before (name_of x) name ≡ false) xs place
