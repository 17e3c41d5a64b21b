-- The entries at a consumer that is closed, offered to the others: one is asked, or it is guessed how near they come.

use Rattle.std.specs.Prelude.{◌≡◌, ℕ, ◌+◌, ◌<◌, ◌≤◌, List, length, slice_index, ◌⊎◌, true, false, Option}
use Rattle.sr_transport.specs.{Transport, consumers}
use Rattle.sr_transport.specs.plain.Problem.{cost_of, IsAllowed}
use Rattle.sr_solver.specs.declared.label.Label.{Label}
use Rattle.sr_solver.specs.Labels.{label_at, open_count, priced}
use Rattle.sr_solver.specs.Search.{IsCovered, IsSearch}

-- no closed consumer is farther than consumer t
abbrev pub IsLatest : Transport → List Label → ℕ → Type 0
IsLatest p labels t =
    (c : ℕ) → c < consumers p → (label_at labels c).closed ≡ true → (label_at labels c).dist ≤ (label_at labels t).dist

-- no entry at consumer t comes nearer to consumer b than any closed consumer is
abbrev pub ComesAfter : Transport → ℕ → List ℕ → List ℕ → List Label → ℕ → ℕ → Type 0
ComesAfter p k xs prices labels t b =
    (i c : ℕ) → i < k → slice_index xs i ≡ t → IsAllowed p i b → c < consumers p → (label_at labels c).closed ≡ true
    → (label_at labels c).dist + priced p prices i t ≤ (label_at labels t).dist + priced p prices i b

-- the search after consumer t is closed, and its entries are offered to the consumers below `upto`
pub record IsClosed (p : Transport) (k : ℕ) (xs prices : List ℕ) (cutoff : Option ℕ) (old new : List Label)
    (t upto : ℕ) : Type 0 where
  pub search : IsSearch p k xs prices cutoff new t upto
  pub closed : (label_at new t).closed ≡ true
  pub latest : IsLatest p new t
  pub fewer : open_count new < open_count old

-- the label of consumer c stays where the entries at consumer t are offered: it is closed, or none of them comes
-- nearer, and nearer than the cutoff
pub record IsLeftAt (p : Transport) (k : ℕ) (xs prices : List ℕ) (cutoff : Option ℕ) (t : ℕ) (old new : List Label)
    (c : ℕ) : Type 0 where
  pub same : label_at new c ≡ label_at old c
  pub no_nearer : (i : ℕ) → i < k → slice_index xs i ≡ t → IsAllowed p i c
      → ((label_at old c).closed ≡ true) ⊎ IsCovered p prices cutoff old (label_at old t).dist (priced p prices i t) i c

-- or consumer c has a new label: its mover stands at t, and no entry there costs less more
pub record IsNewAt (p : Transport) (k : ℕ) (xs prices : List ℕ) (t : ℕ) (old new : List Label) (c : ℕ) : Type 0 where
  pub earlier : (label_at new c).mover < k
  pub stands : slice_index xs (label_at new c).mover ≡ t
  pub allowed : IsAllowed p (label_at new c).mover c
  pub was_open : (label_at old c).closed ≡ false
  pub still_open : (label_at new c).closed ≡ false
  pub hops : (label_at new c).hops ≡ (label_at old t).hops + 1
  pub dist : (label_at new c).dist + priced p prices (label_at new c).mover t
      ≡ (label_at old t).dist + priced p prices (label_at new c).mover c
  pub nearer : 0 < (label_at old c).hops → (label_at new c).dist ≤ (label_at old c).dist
  pub guess : (label_at new c).guess ≡ (label_at old c).guess
  pub least : (i : ℕ) → i < k → slice_index xs i ≡ t → IsAllowed p i c
      → cost_of p (label_at new c).mover c + cost_of p i t ≤ cost_of p i c + cost_of p (label_at new c).mover t

-- the entries at consumer t were offered to consumer c
pub record IsAsked (p : Transport) (k : ℕ) (xs prices : List ℕ) (cutoff : Option ℕ) (t c : ℕ)
    (old new : List Label) : Type 0 where
  pub one_each : length new ≡ length old
  pub here : IsLeftAt p k xs prices cutoff t old new c ⊎ IsNewAt p k xs prices t old new c
  pub others : (d : ℕ) → (d ≡ c → ⊥) → label_at new d ≡ label_at old d

-- or what is guessed of consumer c covers them, and is no nearer than any closed consumer
pub record IsGuessing (p : Transport) (k : ℕ) (xs prices : List ℕ) (t c : ℕ) (old new : List Label) : Type 0 where
  pub one_each : length new ≡ length old
  pub was_open : (label_at old c).closed ≡ false
  pub same : label_at new c ≡ record (label_at old c) { guess = (label_at new c).guess }
  pub lower : (label_at new c).guess ≤ (label_at old c).guess
  pub ahead : (d : ℕ) → d < consumers p → (label_at old d).closed ≡ true
      → (label_at old d).dist ≤ (label_at new c).guess
  pub covers : (i : ℕ) → i < k → slice_index xs i ≡ t → IsAllowed p i c
      → (label_at new c).guess + priced p prices i t ≤ (label_at old t).dist + priced p prices i c
  pub others : (d : ℕ) → (d ≡ c → ⊥) → label_at new d ≡ label_at old d

-- the labels stay, or the entries at consumer t were offered to one consumer
abbrev pub MayBeAsked : Transport → ℕ → List ℕ → List ℕ → Option ℕ → ℕ → List Label → List Label → Type 0
MayBeAsked p k xs prices cutoff t old new = (new ≡ old) ⊎ ((c : ℕ) × IsAsked p k xs prices cutoff t c old new)
