use Rattle.std.proofs.Common.{ap, sym, ◌∙◌}
use Rattle.sr_space.specs.declared.blocking.Outcome.{Outcome}
use Rattle.sr_book.specs.Concluded.{out_of, sent_by, waiting_after}
use Rattle.sr_book.proofs.conclude.conclude.Goals as goal

pub returns-in-Reply : goal.returns-in-Reply
returns-in-Reply c =
    let a = c.args in
    record {
      out = ap (λ (o : Outcome). out_of o) (sym c.in-Reply.is);
      waiting = ap (λ (o : Outcome). waiting_after a.session o a.waiters.now.list) (sym c.in-Reply.is);
      sent = c.one.ensures ∙ ap (λ (o : Outcome). sent_by a.session o) (sym c.in-Reply.is);
    }

pub returns-in-Blocked : goal.returns-in-Blocked
returns-in-Blocked c =
    let a = c.args in
    record {
      out = ap (λ (o : Outcome). out_of o) (sym c.in-Blocked.is);
      waiting = c.join.ensures.list ∙ ap (λ (o : Outcome). waiting_after a.session o a.waiters.now.list) (sym c.in-Blocked.is);
      sent = c.nobody.ensures ∙ ap (λ (o : Outcome). sent_by a.session o) (sym c.in-Blocked.is);
    }
