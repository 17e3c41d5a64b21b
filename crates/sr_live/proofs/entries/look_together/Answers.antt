use Rattle.std.proofs.Common.{◌∙◌}
use Rattle.std.proofs.lemmas.Result.{IfOk-weaker}
use Rattle.sr_live.specs.declared.fault.LiveCall.TheVariants.{Entry}
use Rattle.sr_live.proofs.LookingLemmas.{looks-together, understood-says}
use Rattle.sr_live.proofs.ReadingLemmas.{breaks-memory, breaks-understood, reads-entries, reads-none, sends-whole}
use Rattle.sr_live.proofs.entries.look_together.Goals as goal

pub returns-in_err-requests-clause-err : goal.returns-in_err-requests-clause-err
returns-in_err-requests-clause-err g c =
    breaks-memory c.from_residual.result _ _ _ _ c.from_residual.ensures.1 (reads-none _)

pub returns-in-Ok-clause-err : goal.returns-in-Ok-clause-err
returns-in-Ok-clause-err g c =
    breaks-understood c.understood.result _ _ _ _ Entry c.rows_said.result c.in-Ok.answers.text c.parts.result
    (c.understood.ensures.err tt) c.understood.ensures.told c.rows_said.ensures.err c.in-Ok.ensures.got
    c.parts.ensures.spelled
    (reads-entries _ _ c.args.key.now c.args.listed.now c.as_slice.result.now
    (c.as_slice.ensures.value ∙ c.in_ok-requests.ensures) (sends-whole _ _ _ c.in-Ok.ensures.sent))

pub returns-clause-err : goal.returns-clause-err
returns-clause-err g c = record {
  looking = tt;
  read = reads-entries _ _ c.args.key.now c.args.listed.now c.as_slice.result.now
      (c.as_slice.ensures.value ∙ c.in_ok-requests.ensures) c.in-Err.ensures.err;
  told = tt;
}

pub returns-in-Ok-clause-ok : goal.returns-in-Ok-clause-ok
returns-in-Ok-clause-ok g c =
    understood-says c.rows_said.result c.understood.result _ c.understood.ensures.ok
    (IfOk-weaker c.rows_said.result _ _ (λ done said.
    looks-together c.args.key.now (g.P.Peer.sent c.args.peer.now) (g.P.Peer.got c.args.peer.now)
    (g.P.Peer.sent c.ask.new.peer) (g.P.Peer.got c.ask.new.peer) c.as_slice.result.now c.in-Ok.answers.text
    c.parts.result c.args.listed.now c.args.rows.now.items c.rows_said.new.rows.items
    (c.as_slice.ensures.value ∙ c.in_ok-requests.ensures) c.in-Ok.ensures.sent c.in-Ok.ensures.got
    c.parts.ensures.spelled said) c.rows_said.ensures.ok)
