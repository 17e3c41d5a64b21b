-- How a solver's answer is kept. No public clause cites this module.

use Rattle.sr_transport.specs.declared.solved.Solved.{Solved}
use Rattle.sr_transport.specs.declared.solved.Solved.TheVariants.{Best, Short}
use Rattle.sr_plan.specs.Verdict.{Judged, PlanAnswer, best, short}
use Rattle.sr_plan.specs.declared.verdict.Judgement.{Judgement}

abbrev pub answer_of : Solved → PlanAnswer
answer_of (Best assign prices total) = best assign.items prices.items total
answer_of (Short set) = short set.items

-- what was judged, and the answer
abbrev pub judged_in : Judgement → Judged
judged_in judged = record { snapshot = judged.snapshot; answer = answer_of judged.solved }
