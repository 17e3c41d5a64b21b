-- The fee of the next place, and prices that are level with it.
use Rattle.std.proofs.Common.{◌≡◌, ℕ, ◌+◌, ◌<◌, ◌≤◌, List, length, inl, inr, arith}
use Rattle.std.proofs.lemmas.Bool.{cases_lt}
use Rattle.std.proofs.lemmas.Bool.Decides.{nat_tests}
use Rattle.sr_transport.specs.Limits.{greatest_fee}
use Rattle.sr_solver.specs.declared.stepped.Step.{Step}
use Rattle.sr_solver.specs.Steps.{step_at, fee_after, next_fee, AreSteps, IsLevel}

-- a place among the first ones is without a fee
pub fee_first : (step : Step) (load : ℕ) → load < step.first → fee_after step load ≡ 0
fee_first step load lt = grind (arith, nat_tests)

-- a further one costs the fee
pub fee_beyond : (step : Step) (load : ℕ) → step.first ≤ load → fee_after step load ≡ step.fee
fee_beyond step load le = grind (arith, nat_tests)

-- no fee is above the greatest
pub fee_small : (rooms : List ℕ) (steps : List Step) (c load : ℕ) → AreSteps rooms steps → c < length rooms
    → next_fee steps c load ≤ greatest_fee
fee_small rooms steps c load are lt =
    elim (cases_lt load (step_at steps c).first) [
      | inl before ↦ omega (arith, fee_first (step_at steps c) load before)
      | inr past ↦ omega (arith, fee_beyond (step_at steps c) load past, are.small c lt)
    ]

-- the price of a consumer that has no entries may be 0
pub level_none : (step : Step) (room : ℕ) → IsLevel step room 0 0
level_none step room = record { next = λ lt. omega arith; last = λ lt. absurd (omega (arith, lt)) }

-- a price that is the fee of a place is level once the place is taken
pub level_more : (step : Step) (room load price : ℕ) → fee_after step load ≡ price → IsLevel step room (load + 1) price
level_more step room load price is =
    elim (cases_lt load step.first) [
      | inl before ↦
          let none : fee_after step load ≡ 0 = fee_first step load before in
          record { next = λ lt. omega (arith, none, is); last = λ lt. absurd (omega (arith, lt, before)) }
      | inr past ↦
          let now : fee_after step load ≡ step.fee = fee_beyond step load past in
          let then : fee_after step (load + 1) ≡ step.fee = fee_beyond step (load + 1) (omega arith) in
          record { next = λ lt. omega (arith, now, then, is); last = λ lt. omega (arith, now, is) }
    ]
