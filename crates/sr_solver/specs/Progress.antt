-- How the placement of all entries, one after another, ends.

use Rattle.std.specs.Prelude.{◌≡◌, Bool, false, List}
use Rattle.sr_transport.specs.{Transport}
use Rattle.sr_solver.specs.declared.label.Label.{Label}
use Rattle.sr_solver.specs.declared.placement.Placement.{Placement}
use Rattle.sr_solver.specs.declared.stepped.Step.{Step}
use Rattle.sr_solver.specs.declared.placing.Progress.{Progress}
use Rattle.sr_solver.specs.declared.placing.Progress.TheVariants.{Placed, Stuck, Slow}
use Rattle.sr_solver.specs.Placed.{IsStanding}
use Rattle.sr_solver.specs.Search.{IsStuck}

-- every entry is placed; or there is no place for one of them; or the search was too slow for one who has no patience
abbrev pub IsEndOf : Transport → List Step → Bool → Placement → List Label → Progress → Type 0
IsEndOf p steps is_patient placement labels Placed = IsStanding p steps p.entries placement
IsEndOf p steps is_patient placement labels (Stuck entry) =
    IsStuck p entry placement.assign.items placement.prices.items labels
IsEndOf p steps is_patient placement labels Slow = is_patient ≡ false
