use Rattle.std.proofs.Common.{ap}
use Rattle.sr_plan.specs.declared.verdict.Judgement.{Judgement}
use Rattle.sr_plan.proofs.VerdictLemmas.{solved_is_verdict}
use Rattle.sr_plan.proofs.verdict.Verdict.make.Goals as goal

pub returns : goal.returns
returns c = ap (λ (j : Judgement). j.snapshot) c.in_ok-judged.ensures.ok

pub invariant_of-result : goal.invariant_of-result
invariant_of-result c = rw c.in_ok-judged.ensures.ok
    (solved_is_verdict c.args.snapshot c.in_ok-problem.problem c.in_ok-solved.solved c.sound.ensures
    c.in_ok-problem.ensures.ok c.in_ok-solved.ensures.solution c.in_ok-solved.ensures.prices)
