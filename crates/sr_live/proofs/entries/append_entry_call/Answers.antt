use Rattle.std.proofs.lemmas.Result.{on_ok_weaker}
use Rattle.sr_live.proofs.LookingLemmas.{entry-words}
use Rattle.sr_live.proofs.entries.append_entry_call.Goals as goal

pub returns : goal.returns
returns c =
    on_ok_weaker c.append_request.result
    (λ is. entry-words c.args.out.now.items c.append_request.new.out.items c.args.key.now _ _ c.args.id
    c.as_slice.ensures c.write_id-len.ensures.text is)
    c.append_request.ensures
