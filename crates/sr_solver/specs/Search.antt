-- The state of the search of a path that makes place for entry k, where the entries xs are placed.
-- Source: the invariants of Dijkstra's search over reduced costs.

use Rattle.std.specs.Prelude.{◌≡◌, ℕ, ◌+◌, ◌*◌, ◌<◌, ◌≤◌, List, length, slice_index, ◌⊎◌, true, false}
use Rattle.std.specs.Prelude.{Option, Some, None}
use Rattle.sr_transport.specs.{greatest_charge, Transport, consumers}
use Rattle.sr_transport.specs.plain.Problem.{cost_at, IsAllowed}
use Rattle.sr_solver.specs.declared.label.Label.{Label}
use Rattle.sr_solver.specs.declared.front.End.{End}
use Rattle.sr_solver.specs.declared.stepped.Step.{Step}
use Rattle.sr_solver.specs.Labels.{IsFirstLabel, label_at, open_count, reach_of, priced}
use Rattle.sr_solver.specs.Cutoff.{IsBeyond, IsShortest, AreFull}
use Rattle.sr_solver.specs.Limits.{far}

-- consumer c is reached by the new entry itself
pub record IsFirstStep (p : Transport) (k : ℕ) (prices : List ℕ) (label : Label) (c : ℕ) : Type 0 where
  pub mover : label.mover ≡ k
  pub hops : label.hops ≡ 1
  pub dist : label.dist ≡ priced p prices k c

-- consumer c is reached by an entry that stands at a closed consumer, whose label is `from`
pub record IsNextStep (p : Transport) (k : ℕ) (xs prices : List ℕ) (from label : Label) (c : ℕ) : Type 0 where
  pub earlier : label.mover < k
  pub closed : from.closed ≡ true
  pub hops : label.hops ≡ from.hops + 1
  pub dist : label.dist + priced p prices label.mover (slice_index xs label.mover)
      ≡ from.dist + priced p prices label.mover c

-- how consumer c was reached
pub record IsWay (p : Transport) (k : ℕ) (xs prices : List ℕ) (labels : List Label) (c : ℕ) : Type 0 where
  pub allowed : IsAllowed p (label_at labels c).mover c
  pub step : IsFirstStep p k prices (label_at labels c) c
      ⊎ IsNextStep p k xs prices (label_at labels (slice_index xs (label_at labels c).mover)) (label_at labels c) c

-- consumer c is reached, and no farther than by an entry whose way so far has this length and this base
abbrev pub IsWithin : Transport → List ℕ → List Label → ℕ → ℕ → ℕ → ℕ → Type 0
IsWithin p prices labels dist base i c =
    (0 < (label_at labels c).hops) × ((label_at labels c).dist + base ≤ dist + priced p prices i c)

-- the same, or the entry comes there no nearer than the cutoff
abbrev pub IsCovered : Transport → List ℕ → Option ℕ → List Label → ℕ → ℕ → ℕ → ℕ → Type 0
IsCovered p prices cutoff labels dist base i c =
    IsWithin p prices labels dist base i c ⊎ IsBeyond cutoff base (dist + priced p prices i c)

-- or consumer c is open, and the entry comes there no nearer than is guessed
abbrev pub IsGuessed : Transport → List ℕ → List Label → ℕ → ℕ → ℕ → ℕ → Type 0
IsGuessed p prices labels dist base i c =
    ((label_at labels c).closed ≡ false) × ((label_at labels c).guess + base ≤ dist + priced p prices i c)

-- what is known of an entry that was offered to consumer c
abbrev pub IsOffered : Transport → List ℕ → Option ℕ → List Label → ℕ → ℕ → ℕ → ℕ → Type 0
IsOffered p prices cutoff labels dist base i c =
    IsCovered p prices cutoff labels dist base i c ⊎ IsGuessed p prices labels dist base i c

-- the search, where the entries at consumer t are offered to the consumers below `upto`, and those at each other closed
-- consumer to all
pub record IsSearch (p : Transport) (k : ℕ) (xs prices : List ℕ) (cutoff : Option ℕ) (labels : List Label)
    (t upto : ℕ) : Type 0 where
  pub one_each : length labels ≡ consumers p
  pub way : (c : ℕ) → c < consumers p → 0 < (label_at labels c).hops → IsWay p k xs prices labels c
  pub long : (c : ℕ) → c < consumers p → 0 < (label_at labels c).hops
      → (label_at labels c).dist ≤ slice_index prices c + (label_at labels c).hops * greatest_charge
  pub few : (c : ℕ) → c < consumers p → 0 < (label_at labels c).hops
      → (label_at labels c).hops + open_count labels ≤ consumers p + 1
  pub few_closed : (c : ℕ) → c < consumers p → (label_at labels c).closed ≡ true
      → (label_at labels c).hops + open_count labels ≤ consumers p
  pub reached : (c : ℕ) → c < consumers p → (label_at labels c).closed ≡ true → 0 < (label_at labels c).hops
  pub nearer : (c d : ℕ) → c < consumers p → d < consumers p → (label_at labels c).closed ≡ true
      → (label_at labels d).closed ≡ false → 0 < (label_at labels d).hops
      → (label_at labels c).dist ≤ (label_at labels d).dist
  pub ahead : (c d : ℕ) → c < consumers p → d < consumers p → (label_at labels c).closed ≡ true
      → (label_at labels d).closed ≡ false → (label_at labels c).dist ≤ (label_at labels d).guess
  pub hints : (c : ℕ) → c < consumers p → (label_at labels c).guess ≤ far
  pub unreached : (c : ℕ) → c < consumers p → (label_at labels c).hops ≡ 0 → (label_at labels c).dist ≡ far
  pub new_offered : (c : ℕ) → IsAllowed p k c → IsWithin p prices labels 0 0 k c
  pub offered : (i c : ℕ) → i < k → (label_at labels (slice_index xs i)).closed ≡ true
      → (slice_index xs i ≡ t → c < upto)
      → IsAllowed p i c
      → IsOffered p prices cutoff labels (label_at labels (slice_index xs i)).dist
      (priced p prices i (slice_index xs i)) i c

-- no guess is left that matters: each entry at a closed consumer is within the reach of those that it is allowed, or
-- comes no nearer than the cutoff
abbrev pub AreCovered : Transport → ℕ → List ℕ → List ℕ → Option ℕ → List Label → Type 0
AreCovered p k xs prices cutoff labels =
    (i c : ℕ) → i < k → (label_at labels (slice_index xs i)).closed ≡ true → IsAllowed p i c
    → IsCovered p prices cutoff labels (label_at labels (slice_index xs i)).dist (priced p prices i (slice_index xs i))
    i c

-- of n consumers, t is the nearest of those that are reached and not closed
pub record IsNearestOf (n : ℕ) (labels : List Label) (t : ℕ) : Type 0 where
  pub consumer : t < n
  pub reached : 0 < (label_at labels t).hops
  pub not_closed : (label_at labels t).closed ≡ false
  pub least : (c : ℕ) → c < n → 0 < (label_at labels c).hops → (label_at labels c).closed ≡ false
      → (label_at labels t).dist ≤ (label_at labels c).dist
  pub guesses : (c : ℕ) → c < n → (label_at labels c).closed ≡ false
      → (label_at labels t).dist ≤ (label_at labels c).guess

-- of n consumers none that is open may be nearer than t, by its label or by what is guessed
pub record IsNextOf (n : ℕ) (labels : List Label) (t : ℕ) : Type 0 where
  pub consumer : t < n
  pub not_closed : (label_at labels t).closed ≡ false
  pub near : reach_of (label_at labels t) < far
  pub least : (c : ℕ) → c < n → 0 < (label_at labels c).hops → (label_at labels c).closed ≡ false
      → reach_of (label_at labels t) ≤ (label_at labels c).dist
  pub guesses : (c : ℕ) → c < n → (label_at labels c).closed ≡ false
      → reach_of (label_at labels t) ≤ (label_at labels c).guess

-- of all
abbrev pub IsNearest : Transport → List Label → ℕ → Type 0
IsNearest p labels t = IsNearestOf (consumers p) labels t

-- none of n consumers is reached and not closed
abbrev pub AreAllClosedOf : ℕ → List Label → Type 0
AreAllClosedOf n labels = (c : ℕ) → c < n → 0 < (label_at labels c).hops → (label_at labels c).closed ≡ true

-- each of n consumers that is reached is closed, or no nearer than the cutoff; and no guess is nearer
pub record AreDoneOf (n : ℕ) (cutoff : Option ℕ) (labels : List Label) : Type 0 where
  pub reached : (c : ℕ) → c < n → 0 < (label_at labels c).hops
      → ((label_at labels c).closed ≡ true) ⊎ IsBeyond cutoff 0 (label_at labels c).dist
  pub guesses : (c : ℕ) → c < n → (label_at labels c).closed ≡ false
      → ((label_at labels c).guess ≡ far) ⊎ IsBeyond cutoff 0 (label_at labels c).guess

-- none at all
abbrev pub AreAllClosed : Transport → List Label → Type 0
AreAllClosed p labels = AreAllClosedOf (consumers p) labels

-- the search between two rounds
abbrev pub IsRound : Transport → ℕ → List ℕ → List ℕ → Option ℕ → List Label → Type 0
IsRound p k xs prices cutoff labels = IsSearch p k xs prices cutoff labels (consumers p) (consumers p)

-- the search found a shortest path to a consumer with room: its length is the cutoff, and no open consumer is nearer
pub record IsEnd (p : Transport) (steps : List Step) (k : ℕ) (xs prices : List ℕ) (labels : List Label)
    (end : End) : Type 0 where
  pub search : IsRound p k xs prices (Some end.dist) labels
  pub shortest : IsShortest p steps xs prices labels (consumers p) end
  pub far : (c : ℕ) → c < consumers p → 0 < (label_at labels c).hops → (label_at labels c).closed ≡ false
      → end.dist ≤ (label_at labels c).dist
  pub covered : AreCovered p k xs prices (Some end.dist) labels

-- the search ended with no path, and no cutoff
pub record IsLost (p : Transport) (k : ℕ) (xs prices : List ℕ) (labels : List Label) : Type 0 where
  pub search : IsRound p k xs prices None labels
  pub all_closed : AreAllClosed p labels
  pub full : AreFull p xs labels (consumers p)
  pub covered : AreCovered p k xs prices None labels

-- how a search ends
abbrev pub IsFound : Transport → List Step → ℕ → List ℕ → List ℕ → List Label → Option End → Type 0
IsFound p steps k xs prices labels None = IsLost p k xs prices labels
IsFound p steps k xs prices labels (Some end) = IsEnd p steps k xs prices labels end

-- there is no place for entry k
pub record IsStuck (p : Transport) (k : ℕ) (xs prices : List ℕ) (labels : List Label) : Type 0 where
  pub entry : k < p.entries
  pub placed_below : (i : ℕ) → i < k → IsAllowed p i (slice_index xs i)
  pub waiting : (i : ℕ) → k ≤ i → i < p.entries → slice_index xs i ≡ consumers p
  pub every : length xs ≡ p.entries
  pub lost : IsLost p k xs prices labels

-- the new entry was offered to each consumer, and no other entry
pub record IsStarted (p : Transport) (k : ℕ) (prices : List ℕ) (labels : List Label) : Type 0 where
  pub one_each : length labels ≡ consumers p
  pub each : (c : ℕ) → c < consumers p
      → IsFirstLabel (cost_at p k c) (slice_index prices c) k (label_at labels c)
