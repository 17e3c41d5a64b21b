use Rattle.std.proofs.Common.{◌≡◌, sym, ◌∙◌}
use Rattle.sr_resp.specs.Equality.{same_reply-Decides}
use Rattle.sr_resp.proofs.DraftLemmas.{same_answer}
use Rattle.sr_resp.proofs.reply.ReplyPartialEq.eq.Goals as goal

pub returns-clause-value : goal.returns-clause-value
returns-clause-value c =
    let a = c.self.view_is in
    let b = c.other.view_is in
    let same = c.is_same.ensures in
    same_answer c.is_same.result _ (c.args.self.now ≡ c.args.other.now) (λ e. sym a ∙ same.0 e ∙ b, λ e. same.1 (a ∙ e ∙ sym b)) (same_reply-Decides c.args.self.now c.args.other.now)
