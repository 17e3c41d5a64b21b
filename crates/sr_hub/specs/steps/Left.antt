-- Cited by private clauses alone: what a connection has left to do.

use Rattle.std.specs.Prelude.{◌≡◌, ℕ, ◌+◌, ◌*◌, Bool, length, Option, Some, None, IsSomeAnd}
use Rattle.sr_plan.specs.{Judged}
use Rattle.sr_hub.specs.declared.stage.Judging.{Judging}
use Rattle.sr_hub.specs.Line.{ConnectionState}
use Rattle.sr_hub.specs.declared.stage.Stage.{Stage}
use Rattle.sr_hub.specs.declared.stage.Stage.TheVariants as stages

-- a letter to take
abbrev pub letters : Stage → ℕ
letters stages.Idle = 0
letters stages.Waiting = 1
letters (stages.Asks asked) = 0
letters (stages.Judges judging) = 0
letters stages.Broken = 0
letters stages.CutOff = 0

-- two for each request that waits to be looked at, and one for a letter
abbrev pub left : ConnectionState → ℕ
left line = 2 * length line.requests.waiting + letters line.stage

-- the recovery that it is in, between two rounds
abbrev pub judging_of : Stage → Option Judging
judging_of stages.Idle = None
judging_of stages.Waiting = None
judging_of (stages.Asks asked) = None
judging_of (stages.Judges judging) = Some judging
judging_of stages.Broken = None
judging_of stages.CutOff = None

-- a verdict on the snapshot of a recovery that is carried out or not, and may make this many rounds after this one
abbrev pub Concludes : Stage → Judged → Bool → ℕ → Type 0
Concludes stage judged apply later =
    IsSomeAnd (judging_of stage) (λ judging. (judging.apply ≡ apply) × (judging.later ≡ later)
    × (judged.snapshot ≡ judging.snapshot))
