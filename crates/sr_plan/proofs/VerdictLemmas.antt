-- What a verdict is worth.
use Rattle.std.proofs.Common.{◌≡◌, ◌≤◌, ℕ, List, subst, arith}
use Rattle.std.specs.List.{All}
use Rattle.sr_transport.specs.{Tiered, greatest_price}
use Rattle.sr_transport.specs.Solved.{IsSolution, HasSmallPrices as AreSmall}
use Rattle.sr_transport.specs.declared.solved.Solved.{Solved}
use Rattle.sr_transport.specs.declared.solved.Solved.TheVariants.{Best, Short}
use Rattle.sr_transport.proofs.CallerLemmas.{prices_show_cheapest, shortage_excludes}
use Rattle.sr_policy.specs.{problem_of, SnapshotState}
use Rattle.sr_policy.specs.Snapshot.{IsSnapshot}
use Rattle.sr_policy.proofs.ProblemLemmas.{are_tiers}
use Rattle.sr_check.specs.{AreTold}
use Rattle.sr_plan.specs.Verdict.{PlanAnswer, best, short, HasSmallPrices, IsShown, IsWorth, IsVerdict}
use Rattle.sr_plan.specs.steps.Judged.{answer_of}

-- an answer to a snapshot's problem that shows that it is right is worth what it says
pub shown_is_worth : (shown : SnapshotState) (answer : PlanAnswer) → IsShown (problem_of shown) answer
    → IsWorth (problem_of shown) answer
shown_is_worth shown (best assign prices total) right =
    let p = problem_of shown in (
      right.0.assignment,
      prices_show_cheapest p assign prices (are_tiers shown.live) right.0.assignment right.0.shown,
    )
shown_is_worth shown (short set) right = shortage_excludes (problem_of shown) set right

-- a reply can tell prices that are small
small_are_told : (prices : List ℕ) → All (λ price. price ≤ greatest_price) prices → AreTold prices
small_are_told prices small k d within = omega (arith, small k d within)

-- a solution of a snapshot's problem, with small prices, is a verdict on it
solution_is_shown : (p : Tiered) (solved : Solved) → IsSolution p solved → AreSmall solved
    → IsShown p (answer_of solved)
solution_is_shown p (Best assign prices total) solution small = (solution, small_are_told prices.items small)
solution_is_shown p (Short set) solution small = solution

solution_is_small : (solved : Solved) → AreSmall solved → HasSmallPrices (answer_of solved)
solution_is_small (Best assign prices total) small = small
solution_is_small (Short set) small = small

pub solved_is_verdict : (shown : SnapshotState) (p : Tiered) (solved : Solved) → IsSnapshot shown → p ≡ problem_of shown
    → IsSolution p solved
    → AreSmall solved → IsVerdict (record { snapshot = shown; answer = answer_of solved })
solved_is_verdict shown p solved sound posed solution small =
    record {
      snapshot = sound;
      shown = subst (λ (q : Tiered). IsShown q (answer_of solved)) posed (solution_is_shown p solved solution small);
      small = solution_is_small solved small;
    }
