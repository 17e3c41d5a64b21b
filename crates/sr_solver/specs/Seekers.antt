-- An entry that looks for a place, and what its search knows of the consumers.

use Rattle.std.specs.Prelude.{◌≡◌, ℕ, ◌<◌, ◌⊎◌, List, slice_index, Option, true}
use Rattle.sr_transport.specs.{consumers}
use Rattle.sr_solver.specs.declared.front.End.{End}
use Rattle.sr_solver.specs.declared.front.Exit.{Exit}
use Rattle.sr_solver.specs.declared.front.Front.{Front}
use Rattle.sr_solver.specs.declared.label.Label.{Label}
use Rattle.sr_solver.specs.declared.search.Seeker.{Seeker}
use Rattle.sr_solver.specs.declared.table.Table.{Table}
use Rattle.sr_solver.specs.Labels.{label_at}
use Rattle.sr_solver.specs.Placed.{IsStanding}
use Rattle.sr_solver.specs.Table.{IsAt, IsTable}
use Rattle.sr_solver.specs.Cutoff.{length_of, IsCutoff, IsNoLater}
use Rattle.sr_solver.specs.Sets.{AreWaiting}
use Rattle.sr_solver.specs.Search.{IsSearch, IsFound}
use Rattle.sr_solver.specs.Offers.{IsAsked, IsGuessing}
use Rattle.sr_solver.specs.Exits.{IsExit}

-- the entry is one of the problem, and those before it stand where the placement says
pub record IsSeeker (s : Seeker) : Type 0 where
  pub entry : s.entry < s.problem.now.columns.entries
  pub standing : IsStanding s.problem.now.columns s.problem.now.steps.now s.entry s.placement.now

-- the table tells of the entries that stand
abbrev pub IsTableFor : Seeker → Table → Type 0
IsTableFor s table = IsTable s.problem.now.columns s.placement.now.assign.items table

-- entry i stands at consumer c
abbrev pub StandsAt : Seeker → ℕ → ℕ → Type 0
StandsAt s c i = IsAt s.placement.now.assign.items s.problem.now.columns.entries c i

-- a shortest path to a consumer with room is the cutoff, if one is reached
abbrev pub IsCutoffFor : Seeker → List Label → Option End → Type 0
IsCutoffFor s labels cutoff =
    IsCutoff s.problem.now.columns s.problem.now.steps.now s.placement.now.assign.items s.placement.now.prices.items
    labels (consumers s.problem.now.columns) cutoff

-- how the search ends
abbrev pub IsFoundBy : Seeker → List Label → Option End → Type 0
IsFoundBy s labels end =
    IsFound s.problem.now.columns s.problem.now.steps.now s.entry s.placement.now.assign.items
    s.placement.now.prices.items labels end

-- what the search knows, where the entries at consumer t are offered to the consumers below `upto`, and those at each
-- other closed consumer to all
pub record IsFrontAt (s : Seeker) (t upto : ℕ) (front : Front) : Type 0 where
  pub search : IsSearch s.problem.now.columns s.entry s.placement.now.assign.items s.placement.now.prices.items
      (length_of front.cutoff) front.labels.items t upto
  pub cutoff : IsCutoffFor s front.labels.items front.cutoff
  pub waiting : AreWaiting (consumers s.problem.now.columns) (length_of front.cutoff) front.labels.items front.waiting

-- what it knows between two rounds
abbrev pub IsFrontBetween : Seeker → Front → Type 0
IsFrontBetween s front = IsFrontAt s (consumers s.problem.now.columns) (consumers s.problem.now.columns) front

-- entries leave a consumer that is closed
pub record IsExitFrom (s : Seeker) (front : Front) (exit : Exit) : Type 0 where
  pub consumer : exit.consumer < consumers s.problem.now.columns
  pub closed : (label_at front.labels.items exit.consumer).closed ≡ true
  pub leaves : IsExit exit.consumer (label_at front.labels.items exit.consumer).dist
      (slice_index s.placement.now.prices.items exit.consumer) (length_of front.cutoff) exit

-- the entries at consumer t were offered to consumer c: they were asked, or it is guessed how near they come
abbrev pub IsOfferedTo : Seeker → Front → Front → ℕ → ℕ → Type 0
IsOfferedTo s old new t c =
    IsAsked s.problem.now.columns s.entry s.placement.now.assign.items s.placement.now.prices.items
    (length_of old.cutoff) t c old.labels.items new.labels.items
    ⊎ IsGuessing s.problem.now.columns s.entry s.placement.now.assign.items s.placement.now.prices.items t c
    old.labels.items new.labels.items

-- what it knows once entries were offered to a consumer: the cutoff is no later
pub record IsFrontAfter (s : Seeker) (old new : Front) : Type 0 where
  pub cutoff : IsCutoffFor s new.labels.items new.cutoff
  pub later : IsNoLater (length_of old.cutoff) (length_of new.cutoff)
  pub waiting : AreWaiting (consumers s.problem.now.columns) (length_of new.cutoff) new.labels.items new.waiting
