use Rattle.std.proofs.Common.{◌∙◌, ◌-◌, get_or, length}
use Rattle.std.proofs.lemmas.Result.{IfOk-weaker}
use Rattle.sr_ids.specs.declared.id.Id.{Id}
use Rattle.sr_live.specs.declared.fault.LiveCall.TheVariants.{Entry}
use Rattle.sr_live.proofs.LookingLemmas.{looks-range, understood-says}
use Rattle.sr_live.proofs.ReadingLemmas.{breaks-memory, breaks-understood, reads-none, reads-range, sends-whole}
use Rattle.sr_live.proofs.ranges.look_range.Goals as goal

pub returns-in_err-request-clause-err : goal.returns-in_err-request-clause-err
returns-in_err-request-clause-err g c =
    breaks-memory c.from_residual.result _ _ _ _ c.from_residual.ensures.1 (reads-none _)

pub returns-in-Ok-clause-some : goal.returns-in-Ok-clause-some
returns-in-Ok-clause-some g c =
    understood-says c.rows_told-told.result c.understood.result _ c.understood.ensures.ok c.rows_told-told.ensures.some

pub returns-in-Ok-clause-ok : goal.returns-in-Ok-clause-ok
returns-in-Ok-clause-ok g c =
    understood-says c.rows_told-told.result c.understood.result _ c.understood.ensures.ok
    (IfOk-weaker c.rows_told-told.result _ _ (λ told said.
    looks-range c.args.asked.now.key (g.P.Peer.sent c.args.peer.now) (g.P.Peer.got c.args.peer.now)
    (g.P.Peer.sent c.ask.new.peer) (g.P.Peer.got c.ask.new.peer) c.as_slice.result.now c.in-Ok.answers.text
    c.parts.result _ _ _ told c.args.found.now.wanted c.rows_told-told.new.found.wanted c.args.listed.now
    c.args.found.now.rows.items c.rows_told-told.new.found.rows.items (c.as_slice.ensures.value ∙ c.in_ok-request.ensures)
    c.in-Ok.ensures.sent c.in-Ok.ensures.got c.parts.ensures.spelled said) c.rows_told-told.ensures.told)

pub returns-in-Ok-clause-err : goal.returns-in-Ok-clause-err
returns-in-Ok-clause-err g c =
    let first : Id = (get_or c.args.listed.now 0 c.index-listed-0.result).0 in
    let last : Id = (get_or c.args.listed.now (length c.args.listed.now - 1) c.index-listed-listed.result).0 in
    breaks-understood c.understood.result _ _ _ _ Entry c.rows_told-told.result c.in-Ok.answers.text c.parts.result
    (c.understood.ensures.err tt) c.understood.ensures.told c.rows_told-told.ensures.err c.in-Ok.ensures.got
    c.parts.ensures.spelled
    (reads-range _ _ c.args.asked.now.key first last c.min.result c.as_slice.result.now
    (c.as_slice.ensures.value ∙ c.in_ok-request.ensures) (sends-whole _ _ _ c.in-Ok.ensures.sent))

pub returns-clause-err : goal.returns-clause-err
returns-clause-err g c =
    let first : Id = (get_or c.args.listed.now 0 c.index-listed-0.result).0 in
    let last : Id = (get_or c.args.listed.now (length c.args.listed.now - 1) c.index-listed-listed.result).0 in
    record {
      looking = tt;
      read = reads-range _ _ c.args.asked.now.key first last c.min.result c.as_slice.result.now
          (c.as_slice.ensures.value ∙ c.in_ok-request.ensures) c.in-Err.ensures.err;
      told = tt;
    }
