-- Where binary search finds groups. No public clause cites it.

use Rattle.std.specs.Prelude.{◌≡◌, ℕ, List, Some, slice_get}
use Rattle.std.specs.List.{count_by}
use Rattle.sr_bytes.specs.{comes_before}
use Rattle.sr_stream.specs.Groups.{ByName}

-- how many groups come before the name
abbrev pub before : {G : Type 0} → List ℕ → ByName G → ℕ
before name groups = count_by (λ named. comes_before named.0 name) groups

-- the group at this place has the name
pub record IsPlace {G : Type 0} (name : List ℕ) (groups : ByName G) (place : ℕ) : Type 0 where
  pub group : G
  pub here : slice_get groups place ≡ Some (name, group)
