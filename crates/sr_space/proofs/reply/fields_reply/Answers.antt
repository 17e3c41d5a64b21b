use Rattle.std.proofs.Common.{◌∙◌}
use Rattle.sr_space.proofs.ReplyLemmas.{IsReply-pairs_answer, fields-written}
use Rattle.sr_space.proofs.reply.fields_reply.Goals as goal

pub finish-requires : goal.finish-requires
finish-requires c =
    let fields = c.args.entry.now.fields in
    rw (fields-written fields c.fields-pairs.result _ _ _ c.fields-pairs.ensures c.len.ensures.value c.array-draft.ensures c.in_ok-write_pairs.ensures) (IsReply-pairs_answer fields)

pub returns : goal.returns
returns c =
    c.finish.ensures ∙ fields-written c.args.entry.now.fields c.fields-pairs.result _ _ _ c.fields-pairs.ensures c.len.ensures.value c.array-draft.ensures c.in_ok-write_pairs.ensures
