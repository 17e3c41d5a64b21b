use Rattle.std.proofs.Common.{◌≡◌, ap, ◌∙◌}
use Rattle.std.proofs.lemmas.Result.{on_ok_weaker}
use Rattle.sr_ids.specs.declared.id.Id.{Id}
use Rattle.sr_ids.specs.{spelling}
use Rattle.sr_space.proofs.ReplyLemmas.{entry-written}
use Rattle.sr_space.proofs.reply.write_entry.Goals as goal

pub returns : goal.returns
returns c =
    let fields = c.args.entry.now.fields in
    let pairs : c.fields-pairs.result ≡ fields = c.fields-pairs.ensures in
    let id = c.write_id-len.ensures.text ∙ ap (λ (i : Id). spelling i) c.id.ensures in
    on_ok_weaker c.write_pairs.result (entry-written c.args.entry.now c.args.draft.now c.header.new.self c.bulk.new.self c.header-2.new.self c.write_pairs.new.draft _ c.fields-pairs.result c.fields-pairs.result id pairs pairs c.in_ok-header.ensures.ok c.in_ok-bulk.ensures.ok (rw c.len.ensures.value at c.in_ok-header-2.ensures.ok)) c.write_pairs.ensures
