use Rattle.std.proofs.Common.{List, ℕ, ◌∙◌, ap}
use Rattle.std.proofs.lemmas.Result.{IfOk-weaker}
use Rattle.sr_check.specs.{verdict_answer}
use Rattle.sr_plan.specs.Verdict.{short}
use Rattle.sr_plan.proofs.verdict.Verdict.reply.Goals as goal

pub returns-in-Short : goal.returns-in-Short
returns-in-Short c =
    IfOk-weaker c.shortage_reply.result _ _
    (λ reply is. rw (← c.self.view_is, ← c.deref-judged.ensures, c.in-Short.is)
    (is c.args.applied ∙ ap (λ (set : List ℕ). verdict_answer c.deref-judged.result.now.snapshot (short set) c.args.applied)
    c.as_slice-in-Short.ensures.value))
    c.shortage_reply.ensures
