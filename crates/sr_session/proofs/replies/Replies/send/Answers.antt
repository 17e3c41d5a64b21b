use Rattle.std.proofs.Common.{take, refl, ap, ◌∙◌}
use Rattle.sr_session.specs.declared.run.End.TheVariants.{SendFault}
use Rattle.sr_session.specs.steps.Gathered.{counted}
use Rattle.sr_session.proofs.replies.Replies.send.Goals as goal

pub send_all-requires : goal.send_all-requires
send_all-requires g c = c.requires

pub returns-in-Ok : goal.returns-in-Ok
returns-in-Ok g c = record {
  gathered = c.empty.ensures;
  sent = c.saturating_add-self.ensures ∙ ap (counted c.args.self.now.sent) (c.len.ensures ∙ c.args.self.now.gathered.ok.0);
  ok = rw c.as_slice.ensures.value at c.in-Ok.ensures.ok;
  err = tt;
  noted = c.in-Ok.ensures.sound;
}

pub returns-in-Err : goal.returns-in-Err
returns-in-Err g c =
    let part = rw c.as_slice.ensures.value at c.in-Err.ensures.err in
    record {
      gathered = tt;
      sent = tt;
      ok = tt;
      err = (take c.in-Err.fault.sent c.args.self.now.gathered.items, part.1, record { count = c.in-Err.fault.sent; short = part.0; part = refl; told = ap SendFault c.saturating_add-sent.ensures });
      noted = c.in-Err.ensures.failed;
    }
