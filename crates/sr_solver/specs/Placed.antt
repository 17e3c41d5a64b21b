-- The state between two placements.

use Rattle.std.specs.Prelude.{◌≡◌, ℕ, ◌*◌, ◌<◌, ◌≤◌, List, length, slice_index}
use Rattle.sr_transport.specs.Limits.{greatest_rise}
use Rattle.sr_transport.specs.{Transport, consumers}
use Rattle.sr_transport.specs.plain.Problem.{IsWithinLimits, room_of, IsAllowed}
use Rattle.sr_transport.specs.plain.Assignment.{load}
use Rattle.sr_transport.specs.plain.Certificate.{IsLeast}
use Rattle.sr_solver.specs.declared.placement.Placement.{Placement}
use Rattle.sr_solver.specs.declared.stepped.Step.{Step}
use Rattle.sr_solver.specs.Steps.{step_at, AreSteps, IsLevel}
use Rattle.sr_solver.specs.Members.{AreWide, AreMembers}

-- the first k entries are placed, and the prices show that none can be placed for less; the others stand past the last
-- consumer
pub record IsPlaced (p : Transport) (k : ℕ) (xs prices : List ℕ) : Type 0 where
  pub limits : IsWithinLimits p.rooms p.entries p.costs
  pub every : length xs ≡ p.entries
  pub one_each : length prices ≡ consumers p
  pub placed : (i : ℕ) → i < k → IsAllowed p i (slice_index xs i)
  pub waiting : (i : ℕ) → k ≤ i → i < p.entries → slice_index xs i ≡ consumers p
  pub in_room : (c : ℕ) → c < consumers p → load xs c ≤ room_of p c
  pub least : (i : ℕ) → i < k → IsLeast p prices i (slice_index xs i)
  pub low : (c : ℕ) → c < consumers p → slice_index prices c ≤ k * greatest_rise

-- the loads are those of the assignment
pub record AreLoads (p : Transport) (xs loads : List ℕ) : Type 0 where
  pub one_each : length loads ≡ consumers p
  pub each : (c : ℕ) → c < consumers p → slice_index loads c ≡ load xs c

-- the price of each consumer is level with its fees
abbrev pub AreLevel : Transport → List Step → List ℕ → List ℕ → Type 0
AreLevel p steps xs prices =
    (c : ℕ) → c < consumers p → IsLevel (step_at steps c) (room_of p c) (load xs c) (slice_index prices c)

-- the first k entries stand where the placement says, and its loads and members are theirs
pub record IsStanding (p : Transport) (steps : List Step) (k : ℕ) (placement : Placement) : Type 0 where
  pub placed : IsPlaced p k placement.assign.items placement.prices.items
  pub are_steps : AreSteps p.rooms steps
  pub level : AreLevel p steps placement.assign.items placement.prices.items
  pub loads : AreLoads p placement.assign.items placement.loads.items
  pub wide : AreWide p placement.width
  pub members : AreMembers p placement.width placement.assign.items placement.members.items
