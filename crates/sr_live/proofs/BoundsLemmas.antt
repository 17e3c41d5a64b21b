-- When a plan that was made of one snapshot is one of another: the two laws.
use Rattle.std.proofs.Common.{◌≡◌, ◌↔◌, ℕ, ◌+◌, ◌≤◌, List, sym, ◌∙◌, arith}
use Rattle.sr_transport.specs.Assignment.{total_of, IsAssignment}
use Rattle.sr_transport.specs.Solved.{IsBest}
use Rattle.sr_policy.specs.{SnapshotState, problem_of}
use Rattle.sr_policy.specs.Snapshot.{IsSnapshot}
use Rattle.sr_policy.proofs.ProblemLemmas.{are_tiers}
use Rattle.sr_check.specs.{best, IsShown}
use Rattle.sr_live.specs.Bounds.{free_loads, gap_of, Fits, HaveRoom, IsSameWork}
use Rattle.sr_live.proofs.LackLemmas.{at_most_worse_by_lack, filled_lacks_nothing, lacking_nothing_is_filled}
use Rattle.sr_live.proofs.LackLemmas.{AreLeast}
use Rattle.sr_live.proofs.AlikeLemmas.{are_least-alike, assigned-alike, tiers-alike, total_of-alike}
use Rattle.sr_live.proofs.GapLemmas.{gap_of-lack}
use Rattle.sr_live.proofs.WorkLemmas.{costs-same, problems-alike, room-from_problem, room-in_problem, same_first, soft-same}

-- the plan is an assignment of the new snapshot's problem, at the same total, and each entry is in a tier where the sum
-- of charge and price is least
record IsKept (now : SnapshotState) (assign prices : List ℕ) (total : ℕ) : Type 0 where
  assignment : IsAssignment (problem_of now) assign
  sum : total ≡ total_of (problem_of now) assign
  least : AreLeast (problem_of now) assign prices

kept : (old now : SnapshotState) (assign prices : List ℕ) (total : ℕ) → IsBest (problem_of old) assign prices total
    → Fits old now assign → IsKept now assign prices total
kept old now assign prices total was fits =
    let p = problem_of old in
    let q = problem_of now in
    let alike = problems-alike old now fits.work in
    let same = same_first old now assign fits.work fits.free in
    record {
      assignment = assigned-alike p q assign alike was.assignment (room-in_problem now assign fits.room);
      sum = was.sum ∙ total_of-alike p q assign alike was.assignment.placement same;
      least = are_least-alike p q assign prices alike was.assignment.placement same was.shown.least;
    }

-- a plan that is kept, and whose tiers with a price are filled, is shown by its prices
shown-now : (old now : SnapshotState) (assign prices : List ℕ) (total : ℕ) → IsBest (problem_of old) assign prices total
    → IsSameWork old now → IsKept now assign prices total → gap_of now assign prices ≡ 0
    → IsBest (problem_of now) assign prices total
shown-now old now assign prices total was work is none =
    let q = problem_of now in
    let placed = is.assignment.placement in
    record {
      assignment = is.assignment;
      shown = record {
        one_each = was.shown.one_each ∙ tiers-alike (problem_of old) q (problems-alike old now (costs-same old now work));
        least = is.least;
        filled = lacking_nothing_is_filled q assign prices (are_tiers now.live) placed
            (sym (gap_of-lack now assign prices placed) ∙ none);
      };
      sum = is.sum;
      small_total = was.small_total;
    }

-- a plan that is shown has room, and no gap
room-shown : (old now : SnapshotState) (assign prices : List ℕ) (total : ℕ) → IsSnapshot old → IsSameWork old now
    → IsBest (problem_of now) assign prices total → HaveRoom assign 0 now.live
room-shown old now assign prices total snapshot work is =
    room-from_problem now assign (soft-same old now work snapshot.bounds.tiers) is.assignment.placement.in_room

gap-shown : (now : SnapshotState) (assign prices : List ℕ) (total : ℕ) → IsBest (problem_of now) assign prices total
    → gap_of now assign prices ≡ 0
gap-shown now assign prices total is =
    gap_of-lack now assign prices is.assignment.placement
    ∙ filled_lacks_nothing (problem_of now) assign prices is.shown.filled

pub shown_while_filled : (old now : SnapshotState) (assign prices : List ℕ) (total : ℕ) → IsSnapshot old → IsSameWork old now
    → free_loads assign 0 old.live ≡ free_loads assign 0 now.live
    → IsShown (problem_of old) (best assign prices total)
    → (HaveRoom assign 0 now.live × (gap_of now assign prices ≡ 0))
    ↔ IsShown (problem_of now) (best assign prices total)
shown_while_filled old now assign prices total snapshot work same was = (
  λ h.
      let fits : Fits old now assign = record { work = costs-same old now work; room = h.0; free = same } in
      (shown-now old now assign prices total was.0 work (kept old now assign prices total was.0 fits) h.1, was.1),
  λ is. (room-shown old now assign prices total snapshot work is.0, gap-shown now assign prices total is.0),
)

pub worse_by_gap : (old now : SnapshotState) (assign prices : List ℕ) (total : ℕ)
    → IsShown (problem_of old) (best assign prices total) → Fits old now assign
    → IsAssignment (problem_of now) assign × (total ≡ total_of (problem_of now) assign)
    × ((other : List ℕ) → IsAssignment (problem_of now) other
    → total ≤ total_of (problem_of now) other + gap_of now assign prices)
worse_by_gap old now assign prices total was fits =
    let is = kept old now assign prices total was.0 fits in (
      is.assignment,
      is.sum,
      λ other assigned.
          let worse = at_most_worse_by_lack (problem_of now) assign prices other (are_tiers now.live) is.assignment
          is.least assigned in
          omega (arith, worse, is.sum, gap_of-lack now assign prices is.assignment.placement),
    )
