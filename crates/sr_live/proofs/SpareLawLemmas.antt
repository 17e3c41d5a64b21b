-- A plan that leaves places free holds while few entries come and go: the law.
use Rattle.std.proofs.Common.{ℕ, ◌<◌, ◌≤◌, All, List, length, arith}
use Rattle.std.proofs.lemmas.List.{length-map}
use Rattle.sr_transport.proofs.CallerLemmas.{placed_below}
use Rattle.sr_check.specs.{best, IsShown}
use Rattle.sr_check.specs.PlanAnswer.{moves_of, prices_by}
use Rattle.sr_policy.specs.{SnapshotState, problem_of}
use Rattle.sr_policy.specs.Snapshot.{IsSnapshot}
use Rattle.sr_live.specs.Bounds.{gap_of, HaveRoom}
use Rattle.sr_live.specs.Near.{AreNear}
use Rattle.sr_live.specs.Spare.{spared, with_spare, worth_of}
use Rattle.sr_live.proofs.GivenLemmas.{worth-gap}
use Rattle.sr_live.proofs.NearLemmas.{near-holds}

pub holds_near : (spare : ℕ) (old now : SnapshotState) (assign prices : List ℕ) (total : ℕ)
    → IsSnapshot (with_spare spare old) → IsShown (problem_of (with_spare spare old)) (best assign prices total)
    → AreNear spare old.live now.live
    → HaveRoom assign 0 now.live × (gap_of now assign prices
    ≤ worth_of spare (moves_of (with_spare spare old) assign) old.live (prices_by (with_spare spare old).live prices))
holds_near spare old now assign prices total snapshot shown near =
    let holds = near-holds spare old now assign prices total snapshot shown near in
    let count = length-map old.live (spared spare) in
    let placed = placed_below (problem_of (with_spare spare old)) assign shown.0.assignment.placement in
    let within : All (λ a. a < length old.live) assign = λ i d lt. omega (arith, count, placed i d lt) in
    let worth = worth-gap spare spare old assign prices snapshot.names.live shown.0.assignment.every within in
    (holds.0, omega (arith, holds.1, worth))
