use Rattle.std.proofs.Common.{sym, ap, ◌∙◌}
use Rattle.sr_transport.specs.declared.solved.Solved.{Solved}
use Rattle.sr_plan.specs.Verdict.{Judged, shortage_in}
use Rattle.sr_plan.specs.declared.verdict.Judgement.{Judgement}
use Rattle.sr_plan.specs.steps.Judged.{answer_of}
use Rattle.sr_plan.proofs.verdict.Verdict.shortage.Goals as goal

pub returns-in-Best : goal.returns-in-Best
returns-in-Best c =
    let snapshot = c.self.inside.judged.value.snapshot in
    ap (λ (s : Solved). shortage_in snapshot (answer_of s)) (sym c.in-Best.is)
    ∙ ap (λ (j : Judgement). shortage_in snapshot (answer_of j.solved)) c.deref-judged.ensures
    ∙ ap (λ (j : Judged). shortage_in j.snapshot j.answer) c.self.view_is
