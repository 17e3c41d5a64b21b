-- The labels of consumers in a search, as lists.

use Rattle.std.specs.Prelude.{◌≡◌, ℕ, ◌+◌, ◌<◌, ◌≤◌, ◌⊎◌, List, false, slice_index, slice_index_or, not, min}
use Rattle.std.specs.Prelude.{count_by, nat_lt, Option, Some, None}
use Rattle.sr_transport.specs.{Transport, consumers}
use Rattle.sr_solver.specs.Limits.{greatest_way, far}
use Rattle.sr_transport.specs.plain.Problem.{cost_of}
use Rattle.sr_solver.specs.declared.label.Label.{Label}

-- the label of a consumer that is not reached
abbrev pub unreached : Label
unreached = record { hops = 0; dist = far; mover = 0; closed = false; guess = far }

-- the label of a consumer of this price that entry k, which stands nowhere, comes to at this cost, if it is allowed
abbrev pub IsFirstLabel : Option ℕ → ℕ → ℕ → Label → Type 0
IsFirstLabel None price k label = label ≡ unreached
IsFirstLabel (Some cost) price k label =
    label ≡ record { hops = 1; dist = cost + price; mover = k; closed = false; guess = far }

-- what stands past the last consumer
abbrev pub no_label : Label
no_label = record { hops = 0; dist = 0; mover = 0; closed = false; guess = 0 }

abbrev pub label_at : List Label → ℕ → Label
label_at labels c = slice_index_or labels c no_label

-- a consumer is reached by a path that is not long, or it is not reached, and its label is far
abbrev pub IsFarOrReached : Label → Type 0
IsFarOrReached label = ((label.hops ≡ 0) × (label.dist ≡ far)) ⊎ ((0 < label.hops) × (label.dist ≤ greatest_way))

-- so is each consumer
abbrev pub AreFarOrReached : Transport → List Label → Type 0
AreFarOrReached p labels = (c : ℕ) → c < consumers p → IsFarOrReached (label_at labels c)

-- how many labels are not closed
abbrev pub open_count : List Label → ℕ
open_count labels = count_by (λ l. not l.closed) labels

-- how many labels have a guess
abbrev pub guess_count : List Label → ℕ
guess_count labels = count_by (λ l. nat_lt l.guess far) labels

-- how near a consumer may be: as its label says, or as is guessed
abbrev pub reach_of : Label → ℕ
reach_of label = min label.dist label.guess

-- what entry i costs at consumer c, with the price there
abbrev pub priced : Transport → List ℕ → ℕ → ℕ → ℕ
priced p prices i c = cost_of p i c + slice_index prices c
