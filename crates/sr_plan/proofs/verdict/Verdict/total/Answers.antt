use Rattle.std.proofs.Common.{sym, ap, ◌∙◌}
use Rattle.sr_transport.specs.declared.solved.Solved.{Solved}
use Rattle.sr_plan.specs.Verdict.{Judged, total_in}
use Rattle.sr_plan.specs.declared.verdict.Judgement.{Judgement}
use Rattle.sr_plan.specs.steps.Judged.{answer_of}
use Rattle.sr_plan.proofs.verdict.Verdict.total.Goals as goal

pub returns-in-Best : goal.returns-in-Best
returns-in-Best c = ap (λ (s : Solved). total_in (answer_of s)) (sym c.in-Best.is)
    ∙ ap (λ (j : Judgement). total_in (answer_of j.solved)) c.deref.ensures
    ∙ ap (λ (j : Judged). total_in j.answer) c.self.view_is
