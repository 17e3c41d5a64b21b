-- A consumer that takes an entry at once, so that no other entry has to move and no price has to rise.

use Rattle.std.specs.Prelude.{◌≡◌, ℕ, ◌+◌, ◌-◌, ◌^◌, ◌<◌, ◌≤◌, List, slice_index, ◌⊎◌, Bool, true, false}
use Rattle.std.specs.Prelude.{Option, Some, None, IfSome, IfNone}
use Rattle.sr_transport.specs.{Transport}
use Rattle.sr_transport.specs.plain.Problem.{IsAllowed}
use Rattle.sr_transport.specs.plain.Certificate.{IsLeast}
use Rattle.sr_solver.specs.declared.stepped.Step.{Step}
use Rattle.sr_solver.specs.declared.taker.Cheapest.{Cheapest}
use Rattle.sr_solver.specs.Labels.{priced}
use Rattle.sr_solver.specs.Steps.{IsVacant}

-- consumer c is where cost and price are least for entry k, and the loads leave a place there that costs the price
pub record IsTaker (p : Transport) (steps : List Step) (prices loads : List ℕ) (k c : ℕ) : Type 0 where
  pub allowed : IsAllowed p k c
  pub least : IsLeast p prices k c
  pub vacant : IsVacant p steps c (slice_index loads c) (slice_index prices c)

-- consumer c has such a place for entry k, at this sum of cost and price
pub record IsFree (p : Transport) (steps : List Step) (prices loads : List ℕ) (k sum c : ℕ) : Type 0 where
  pub allowed : IsAllowed p k c
  pub same : priced p prices k c ≡ sum
  pub vacant : IsVacant p steps c (slice_index loads c) (slice_index prices c)

-- what is known of the first n consumers
pub record IsCheapest (p : Transport) (steps : List Step) (prices loads : List ℕ) (k n : ℕ)
    (cheapest : Cheapest) : Type 0 where
  pub least : (c : ℕ) → c < n → IsAllowed p k c → cheapest.sum ≤ priced p prices k c
  pub free : IfSome cheapest.free (IsFree p steps prices loads k cheapest.sum)
  pub attained : cheapest.sum < 2 ^ 64 - 1 → (c : ℕ) × IsAllowed p k c × (priced p prices k c ≡ cheapest.sum)
  pub none : IfNone cheapest.free ((c : ℕ) → c < n → IsFree p steps prices loads k cheapest.sum c → ⊥)

-- the consumer that is free is c, which has this sum, or the one from before, if the sum stays
abbrev pub IsFreeAfter : ℕ → ℕ → Bool → Cheapest → ℕ → ℕ → Type 0
IsFreeAfter c sum is_vacant old new_sum f =
    ((f ≡ c) × (new_sum ≡ sum) × (is_vacant ≡ true)) ⊎ ((old.free ≡ Some f) × (new_sum ≡ old.sum))

-- no consumer is free: not the one with this sum, and none from before, if the sum stays
abbrev pub IsNoneAfter : ℕ → Bool → Cheapest → ℕ → Type 0
IsNoneAfter sum is_vacant old new_sum = (new_sum ≡ sum → is_vacant ≡ false) × (new_sum ≡ old.sum → old.free ≡ None)

-- what is known after consumer c, where the entry has this cost and this price
abbrev pub IsCompared : ℕ → Option ℕ → ℕ → Bool → Cheapest → Cheapest → Type 0
IsCompared c None price is_vacant old new = new ≡ old
IsCompared c (Some cost) price is_vacant old new =
    (new.sum ≤ cost + price) × (new.sum ≤ old.sum) × ((new.sum ≡ cost + price) ⊎ (new.sum ≡ old.sum))
    × IfSome new.free (IsFreeAfter c (cost + price) is_vacant old new.sum)
    × IfNone new.free (IsNoneAfter (cost + price) is_vacant old new.sum)
