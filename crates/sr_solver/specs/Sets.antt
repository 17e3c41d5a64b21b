-- Sets of consumers: a number, and in it a bit for each consumer.

use Rattle.std.specs.Prelude.{◌≡◌, ℕ, ◌<◌, ◌⊎◌, List, Option, false}
use Rattle.std.specs.Int.{bit_at}
use Rattle.sr_transport.specs.Limits.{most_consumers}
use Rattle.sr_solver.specs.declared.label.Label.{Label}
use Rattle.sr_solver.specs.declared.set.ConsumerSet.{ConsumerSet}
use Rattle.sr_solver.specs.Cutoff.{IsBeyond}
use Rattle.sr_solver.specs.Labels.{label_at}
use Rattle.sr_solver.specs.Limits.{far}

-- consumer c is in the set
abbrev pub IsIn : ConsumerSet → ℕ → Type 0
IsIn set c = (c < most_consumers) × (bit_at set.bits c ≡ 1)

-- each consumer of the one set is in the other
abbrev pub IsAmong : ConsumerSet → ConsumerSet → Type 0
IsAmong set others = (c : ℕ) → IsIn set c → IsIn others c

-- the set with consumer c, too
pub record IsWith (c : ℕ) (old new : ConsumerSet) : Type 0 where
  pub here : IsIn new c
  pub kept : (d : ℕ) → IsIn old d → IsIn new d
  pub back : (d : ℕ) → IsIn new d → (d ≡ c) ⊎ IsIn old d

-- the set without consumer c
pub record IsWithout (c : ℕ) (old new : ConsumerSet) : Type 0 where
  pub gone : IsIn new c → ⊥
  pub kept : (d : ℕ) → (d ≡ c → ⊥) → IsIn old d → IsIn new d
  pub back : (d : ℕ) → IsIn new d → IsIn old d
  pub less : IsIn old c → new.bits < old.bits

-- whether consumer c, which has this label, waits: only if it is open, and if it is reached, or there is a guess, that
-- is nearer than the cutoff
pub record IsWaitingAt (cutoff : Option ℕ) (label : Label) (set : ConsumerSet) (c : ℕ) : Type 0 where
  pub waits : IsIn set c → label.closed ≡ false
  pub each : 0 < label.hops → label.closed ≡ false → IsIn set c ⊎ IsBeyond cutoff 0 label.dist
  pub guesses : label.closed ≡ false → IsIn set c ⊎ (label.guess ≡ far) ⊎ IsBeyond cutoff 0 label.guess

-- of n consumers those in the set are open, and each other one that is reached, or of which there is a guess, is closed
-- or no nearer than the cutoff
pub record AreWaiting (n : ℕ) (cutoff : Option ℕ) (labels : List Label) (set : ConsumerSet) : Type 0 where
  pub within : (c : ℕ) → IsIn set c → c < n
  pub at : (c : ℕ) → c < n → IsWaitingAt cutoff (label_at labels c) set c
