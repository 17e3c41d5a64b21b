-- A problem with tiers as one with steps: each consumer has one room, and its step is where the second tier begins.

use Rattle.std.specs.Prelude.{◌≡◌, ℕ, ◌+◌, ◌-◌, ◌<◌, ◌≤◌, min, List, length, slice_index}
use Rattle.sr_transport.specs.declared.problem.Tier.{Tier}
use Rattle.sr_transport.specs.{Tiered, first_in, tier_at}
use Rattle.sr_transport.specs.Limits.{greatest_room, greatest_fee}
use Rattle.sr_transport.specs.Problem.{room_of}
use Rattle.sr_solver.specs.declared.stepped.Answer.{Answer}
use Rattle.sr_solver.specs.declared.stepped.Step.{Step}
use Rattle.sr_solver.specs.Answered.{IsAnswer}
use Rattle.sr_solver.specs.Steps.{step_at}

-- the rooms of the consumers, none above the greatest
pub record AreRoomsOf (p : Tiered) (rooms : List ℕ) : Type 0 where
  pub one_each : length rooms ≡ p.takers
  pub each : (c : ℕ) → c < p.takers → slice_index rooms c ≡ min (room_of p c) greatest_room

-- the places of the first tier are without a fee, and each further one has the fee of the second tier, if there is one
pub record IsStepOf (tiers : List Tier) (c : ℕ) (step : Step) : Type 0 where
  pub first : step.first ≡ (tier_at tiers (first_in tiers c)).room
  pub next : (tier_at tiers (first_in tiers c + 1)).consumer ≡ c
      → step.fee ≡ (tier_at tiers (first_in tiers c + 1)).fee
  pub small : step.fee ≤ greatest_fee

pub record AreStepsOf (p : Tiered) (steps : List Step) : Type 0 where
  pub one_each : length steps ≡ p.takers
  pub each : (c : ℕ) → c < p.takers → IsStepOf p.tiers c (step_at steps c)

-- the answer is one with these steps, where the consumers have the rooms and the costs of the problem
pub record IsAnswerOf (p : Tiered) (steps : List Step) (answer : Answer) : Type 0 where
  pub rooms : List ℕ
  pub are : AreRoomsOf p rooms
  pub is : IsAnswer (record { rooms = rooms; entries = p.entries; costs = p.costs }) steps answer

-- the price of a tier is what the price of its consumer is above the fee
pub record AreByTier (tiers : List Tier) (prices by_tier : List ℕ) : Type 0 where
  pub one_each : length by_tier ≡ length tiers
  pub each : (t : ℕ) → t < length tiers
      → slice_index by_tier t ≡ slice_index prices (tier_at tiers t).consumer - (tier_at tiers t).fee
