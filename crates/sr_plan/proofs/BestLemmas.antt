-- What a best assignment says of the moves and of the prices of a plan.
use Rattle.std.proofs.Common.{◌≡◌, ℕ, ◌<◌, List, length, ap, sym, ◌∙◌}
use Rattle.std.proofs.lemmas.List.{get_or_default}
use Rattle.sr_transport.specs.Solved.{IsBest}
use Rattle.sr_policy.specs.declared.live.Live.{Live}
use Rattle.sr_policy.specs.declared.stranded.Stranded.{Stranded}
use Rattle.sr_policy.specs.{problem_of, SnapshotState}
use Rattle.sr_policy.proofs.ProblemLemmas.{length-tiers_from}
use Rattle.sr_plan.specs.steps.Moves.{AreMoves, ArePrices}

within_live : (live found : List Live) (c : ℕ) → found ≡ live → c < length live → c < length found
within_live live found c same below = rw same below

-- it has a live consumer for each stranded entry
pub AreMoves-best : (shown : SnapshotState) (assign found prices : List ℕ) (total : ℕ) (stranded : List Stranded)
    (live : List Live)
    → IsBest (problem_of shown) assign prices total → found ≡ assign → stranded ≡ shown.stranded → live ≡ shown.live
    → AreMoves stranded found live
AreMoves-best shown assign found prices total stranded live best is entries consumers = rw is (record {
  each = best.assignment.every ∙ sym (ap length entries);
  consumers = λ k d within. rw (get_or_default assign k d 0 within)
      (within_live shown.live live _ consumers (best.assignment.placement.allowed k within).0);
})

-- and a price for each of their tiers
pub ArePrices-best : (shown : SnapshotState) (assign prices found : List ℕ) (total : ℕ) (live : List Live)
    → IsBest (problem_of shown) assign prices total → found ≡ prices → live ≡ shown.live → ArePrices live found
ArePrices-best shown assign prices found total live best is consumers =
    rw (is, consumers) (best.shown.one_each ∙ length-tiers_from 0 shown.live)
