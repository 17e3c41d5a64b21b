-- A byte in a number: what is still read from the bytes after it. Only private clauses cite this.

use Rattle.std.specs.Prelude.{◌≡◌, ℕ, ◌≤◌, List, ◌∷◌, Ok, Err, codes}
use Rattle.sr_resp.specs.declared.stage.Number.{Number}
use Rattle.sr_resp.specs.declared.stage.Number.TheVariants as numbers
use Rattle.sr_resp.specs.declared.stage.Stage.TheVariants as stages
use Rattle.sr_resp.specs.declared.stage.Step.{Step}
use Rattle.sr_resp.specs.Reading.{Bad, ◌>>=◌, literal_at, digits_at}
use Rattle.sr_resp.specs.Stages.{goes_on, leads_to, IsStepAt}

-- in a number of at most this value, after digits with this value
abbrev pub NumberGoesOn : ℕ → ℕ → ℕ → ℕ → Number → Type 0
NumberGoesOn most digits value byte (numbers.Digit digits' value') =
    (value' ≤ most) × ((more : List ℕ) → digits_at most digits value (byte ∷ more) ≡ digits_at most digits' value' more)
NumberGoesOn most digits value byte numbers.End =
    (more : List ℕ) → digits_at most digits value (byte ∷ more)
    ≡ (literal_at (codes "\n") more >>= λ x. Ok (value, x.1))
NumberGoesOn most digits value byte numbers.Bad = (more : List ℕ) → digits_at most digits value (byte ∷ more) ≡ Err Bad

-- in the number of words
pub record CountGoesOn (digits value byte : ℕ) (step : Step) : Type 0 where
  pub reads : (item : List ℕ) (at next : ℕ) (more : List ℕ)
      → goes_on item at (stages.Count digits value) (byte ∷ more) ≡ leads_to item next step more
  pub sound : (next : ℕ) → IsStepAt next step

-- in the number of bytes of a word
pub record LengthGoesOn (others room digits value byte : ℕ) (step : Step) : Type 0 where
  pub reads : (item : List ℕ) (at next : ℕ) (more : List ℕ)
      → goes_on item at (stages.Length others room digits value) (byte ∷ more) ≡ leads_to item next step more
  pub sound : (next : ℕ) → IsStepAt next step
