-- The cutoff of a search: the length of a shortest path to a consumer with room, with the fee of the next place there,
-- if one is reached. A path that is no shorter is of no use.

use Rattle.std.specs.Prelude.{◌≡◌, ℕ, ◌+◌, ◌<◌, ◌≤◌, List, slice_index, ◌⊎◌, Option, Some, None, true}
use Rattle.sr_transport.specs.{Transport}
use Rattle.sr_transport.specs.plain.Problem.{room_of}
use Rattle.sr_transport.specs.plain.Assignment.{load}
use Rattle.sr_solver.specs.declared.label.Label.{Label}
use Rattle.sr_solver.specs.declared.front.End.{End}
use Rattle.sr_solver.specs.declared.stepped.Step.{Step}
use Rattle.sr_solver.specs.Limits.{greatest_way, far}
use Rattle.sr_solver.specs.Labels.{label_at}
use Rattle.sr_solver.specs.Steps.{next_fee}

-- a path whose length is `sum` less `base` is no shorter than the cutoff
abbrev pub IsBeyond : Option ℕ → ℕ → ℕ → Type 0
IsBeyond None base sum = ⊥
IsBeyond (Some dist) base sum = base + dist ≤ sum

-- ways of this length or more are no shorter than the cutoff; if there is none, no way is so long
abbrev pub IsLimit : Option ℕ → ℕ → Type 0
IsLimit None most = most ≡ far
IsLimit (Some dist) most = most ≡ dist

-- how long the path is, if there is one
abbrev pub length_of : Option End → Option ℕ
length_of None = None
length_of (Some end) = Some end.dist

-- what lies beyond the one lies beyond the other
abbrev pub IsNoLater : Option ℕ → Option ℕ → Type 0
IsNoLater old new = (base sum : ℕ) → IsBeyond old base sum → IsBeyond new base sum

-- a path of this length is no shorter than the cutoff
abbrev pub IsPast : Option End → ℕ → Type 0
IsPast None dist = ⊥
IsPast (Some end) dist = end.dist ≤ dist

-- of the consumers below n that are reached and have room, a shortest path ends at `end`: its length has the fee of the
-- next place there in it, less the price there. No closed one is farther
pub record IsShortest (p : Transport) (steps : List Step) (xs prices : List ℕ) (labels : List Label) (n : ℕ)
    (end : End) : Type 0 where
  pub small : end.dist ≤ greatest_way
  pub consumer : end.consumer < n
  pub reached : 0 < (label_at labels end.consumer).hops
  pub room : load xs end.consumer < room_of p end.consumer
  pub length : end.dist + slice_index prices end.consumer
      ≡ (label_at labels end.consumer).dist + next_fee steps end.consumer (load xs end.consumer)
  pub least : (c : ℕ) → c < n → 0 < (label_at labels c).hops → load xs c < room_of p c
      → end.dist + slice_index prices c ≤ (label_at labels c).dist + next_fee steps c (load xs c)
  pub passed : (c : ℕ) → c < n → (label_at labels c).closed ≡ true → (label_at labels c).dist ≤ end.dist

-- the consumers below n that are reached are full
abbrev pub AreFull : Transport → List ℕ → List Label → ℕ → Type 0
AreFull p xs labels n = (c : ℕ) → c < n → 0 < (label_at labels c).hops → room_of p c ≤ load xs c

-- a cutoff is a shortest path; there is none as long as all consumers that are reached are full
abbrev pub IsCutoff : Transport → List Step → List ℕ → List ℕ → List Label → ℕ → Option End → Type 0
IsCutoff p steps xs prices labels n None = AreFull p xs labels n
IsCutoff p steps xs prices labels n (Some end) = IsShortest p steps xs prices labels n end

-- the cutoff stays, since no path that is longer than the label by `gap` is shorter
pub record IsUncut (label : Label) (gap : ℕ) (old new : Option End) : Type 0 where
  pub same : new ≡ old
  pub far : 0 < label.hops → IsPast old (label.dist + gap)

-- or it falls to this path
pub record IsFallen (c : ℕ) (label : Label) (gap : ℕ) (old new : Option End) : Type 0 where
  pub reached : 0 < label.hops
  pub falls : new ≡ Some (record { consumer = c; dist = label.dist + gap })
  pub nearer : (end : End) → old ≡ Some end → label.dist + gap ≤ end.dist

-- the cutoff once consumer c has this label, where its price is `gap` below the fee of its next place, if it has one
abbrev pub IsCut : ℕ → Label → Option ℕ → Option End → Option End → Type 0
IsCut c label None old new = new ≡ old
IsCut c label (Some gap) old new = IsUncut label gap old new ⊎ IsFallen c label gap old new
