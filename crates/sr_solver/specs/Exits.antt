-- How entries leave a consumer in a search, and where they come nearer. An entry that leaves comes to another consumer
-- at its bound there, with the price: the path is as long as the way to where it stood, with that, and less what the
-- consumer that it leaves has as its base.

use Rattle.std.specs.Prelude.{◌≡◌, ℕ, ◌+◌, ◌*◌, ◌<◌, ◌≤◌, List, length, slice_index, ◌⊎◌, Option, Some, None}
use Rattle.std.specs.Prelude.{true, false}
use Rattle.sr_transport.specs.{greatest_charge, Transport}
use Rattle.sr_transport.specs.plain.Problem.{cost_of, IsAllowed}
use Rattle.sr_solver.specs.declared.front.Exit.{Exit}
use Rattle.sr_solver.specs.declared.label.Label.{Label}
use Rattle.sr_solver.specs.declared.table.Bound.{Bound}
use Rattle.sr_solver.specs.Labels.{label_at}
use Rattle.sr_solver.specs.Limits.{greatest_way, far}
use Rattle.sr_transport.specs.Limits.{most_consumers}
use Rattle.sr_solver.specs.Table.{bound_at, IsKnown, IsSmallRow}

-- a bound with a price that is below `most` comes nearer than the cutoff, if there is one, and else is one of an entry
abbrev pub IsMost : Option ℕ → Exit → Type 0
IsMost None exit = exit.most ≡ far
IsMost (Some dist) exit = exit.most + exit.dist ≡ dist + exit.base

-- how entries leave consumer t, which has this price, if the way there has this length
pub record IsExit (t way price : ℕ) (cutoff : Option ℕ) (exit : Exit) : Type 0 where
  pub consumer : exit.consumer ≡ t
  pub dist : exit.dist ≡ way
  pub base : exit.base ≡ price + greatest_charge
  pub most : IsMost cutoff exit

-- an entry that leaves at this bound comes nearer to an open consumer than the path that is known, and than the cutoff
pub record IsNearer (exit : Exit) (low price : ℕ) (label : Label) : Type 0 where
  pub is_open : label.closed ≡ false
  pub nearer : exit.dist + (low + price) < label.dist + exit.base
  pub below : low + price < exit.most

-- or the consumer is closed, or it comes no nearer
abbrev pub IsNoNearer : Exit → ℕ → ℕ → Label → Type 0
IsNoNearer exit low price label =
    (label.closed ≡ true) ⊎ (label.dist + exit.base ≤ exit.dist + (low + price)) ⊎ (exit.most ≤ low + price)

-- the same for consumer c, by what the pairs tell
abbrev pub IsNearerAt : Exit → List Bound → List ℕ → List Label → ℕ → Type 0
IsNearerAt exit pairs prices labels c =
    IsNearer exit (bound_at pairs (exit.consumer * length prices + c)).low (slice_index prices c) (label_at labels c)

abbrev pub IsNoNearerAt : Exit → List Bound → List ℕ → List Label → ℕ → Type 0
IsNoNearerAt exit pairs prices labels c =
    IsNoNearer exit (bound_at pairs (exit.consumer * length prices + c)).low (slice_index prices c) (label_at labels c)

-- no entry that leaves comes nearer to a consumer from `first` on and below `upto`
abbrev pub AreNoNearer : Exit → List Bound → List ℕ → List Label → ℕ → ℕ → Type 0
AreNoNearer exit pairs prices labels first upto =
    (c : ℕ) → first ≤ c → c < upto → IsNoNearerAt exit pairs prices labels c

-- what entries that leave are compared with, for each consumer: a bound, a price and a label, so small that they can be
-- added up
pub record AreComparable (exit : Exit) (pairs : List Bound) (prices : List ℕ) (labels : List Label) : Type 0 where
  pub consumer : exit.consumer < length prices
  pub each_pair : length pairs ≡ length prices * length prices
  pub each_label : length labels ≡ length prices
  pub bounds : IsSmallRow (length prices) exit.consumer pairs
  pub low : (c : ℕ) → c < length prices → slice_index prices c ≤ greatest_way
  pub near : (c : ℕ) → c < length prices → (label_at labels c).dist ≤ far
  pub way : exit.dist ≤ greatest_way
  pub base : exit.base ≤ greatest_way + greatest_charge
  pub few : length prices ≤ most_consumers

-- the label of a consumer of this price to which the best of the entries moves that leave
pub record IsMoved (exit : Exit) (known : Bound) (price before noted : ℕ) (label : Label) : Type 0 where
  pub hops : label.hops ≡ before + 1
  pub dist : label.dist + exit.base ≡ exit.dist + (known.low + price)
  pub mover : label.mover ≡ known.best
  pub still_open : label.closed ≡ false
  pub guess : label.guess ≡ noted

-- how near entries that leave at this bound may come to a consumer of this price: no nearer than where they were
pub record IsGuess (exit : Exit) (low price guess : ℕ) : Type 0 where
  pub ahead : exit.dist ≤ guess
  pub lower : (sum : ℕ) → low + price ≤ sum → exit.base ≤ sum → guess + exit.base ≤ exit.dist + sum

-- what is known, exactly, of the entries that leave for consumer c, of which `at` tells: the best comes nearer
pub record IsNearMover (p : Transport) (at : ℕ → Type 0) (exit : Exit) (c price : ℕ) (label : Label)
    (known : Bound) : Type 0 where
  pub exact : IsKnown p at exit.consumer c known
  pub entry : known.best < p.entries
  pub nearer : IsNearer exit known.low price label

-- entry i, which leaves, comes no nearer to consumer c, which has this price and this label, or that is closed
abbrev pub ComesNoNearer : Transport → Exit → ℕ → ℕ → ℕ → Label → Type 0
ComesNoNearer p exit i c price label =
    (label.closed ≡ true)
    ⊎ (label.dist + exit.base + cost_of p i exit.consumer ≤ exit.dist + (cost_of p i c + greatest_charge + price))
    ⊎ (exit.most + cost_of p i exit.consumer ≤ cost_of p i c + greatest_charge + price)

-- nor does any of those of which `at` tells
abbrev pub HasNoMover : Transport → (ℕ → Type 0) → Exit → ℕ → ℕ → Label → Type 0
HasNoMover p at exit c price label = (i : ℕ) → at i → IsAllowed p i c → ComesNoNearer p exit i c price label
