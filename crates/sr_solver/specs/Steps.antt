-- The step of a consumer: its first places are without a fee, and each further one costs the fee.
-- Source: piecewise linear costs in network flows (R. K. Ahuja, T. L. Magnanti, J. B. Orlin, "Network Flows", 1993,
-- chapter 14).

use Rattle.std.specs.Prelude.{◌≡◌, ℕ, ◌<◌, ◌≤◌, nat_lt, List, length, slice_index, slice_index_or, if◌then◌else◌}
use Rattle.sr_transport.specs.{Transport}
use Rattle.sr_transport.specs.Limits.{most_consumers, greatest_fee}
use Rattle.sr_transport.specs.plain.Problem.{room_of}
use Rattle.sr_solver.specs.declared.stepped.Step.{Step}

-- the step of consumer c
abbrev pub step_at : List Step → ℕ → Step
step_at steps c = slice_index_or steps c (record { first = 0; fee = 0 })

-- what the next place costs, where `load` entries have the others
abbrev pub fee_after : Step → ℕ → ℕ
fee_after step load = if nat_lt load step.first then 0 else step.fee

-- the same for consumer c
abbrev pub next_fee : List Step → ℕ → ℕ → ℕ
next_fee steps c load = fee_after (step_at steps c) load

-- each consumer has a step within its room, and none has a fee above the greatest
pub record AreSteps (rooms : List ℕ) (steps : List Step) : Type 0 where
  pub one_each : length steps ≡ length rooms
  pub few : length rooms ≤ most_consumers
  pub first : (c : ℕ) → c < length rooms → (step_at steps c).first ≤ slice_index rooms c
  pub small : (c : ℕ) → c < length rooms → (step_at steps c).fee ≤ greatest_fee

-- consumer c, which has `load` entries, has a place that costs its price
pub record IsVacant (p : Transport) (steps : List Step) (c load price : ℕ) : Type 0 where
  pub room : load < room_of p c
  pub fee : next_fee steps c load ≡ price

-- the price of a consumer with so many entries is no greater than the fee of its next place, and no less than that of
-- its last one
pub record IsLevel (step : Step) (room load price : ℕ) : Type 0 where
  pub next : load < room → price ≤ fee_after step load
  pub last : step.first < load → step.fee ≤ price
