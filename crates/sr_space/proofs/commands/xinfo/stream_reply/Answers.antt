use Rattle.std.proofs.Common.{◌∙◌, ap, ℕ, List, Option}
use Rattle.std.specs.Prelude.{◌-◌, length, slice_get}
use Rattle.std.proofs.lemmas.Result.{IfOk-weaker}
use Rattle.sr_entries.specs.declared.entry.Entry.{Entry}
use Rattle.sr_ids.specs.declared.id.Id.{Id}
use Rattle.sr_ids.specs.{spelling}
use Rattle.sr_resp.specs.{bulk_string}
use Rattle.sr_space.specs.commands.Xinfo.{entry_or_null, number}
use Rattle.sr_space.proofs.InfoLemmas.{stream_told}
use Rattle.sr_space.proofs.commands.xinfo.stream_reply.Goals as goal

pub returns : goal.returns
returns c =
    let count = c.number_reply.ensures ∙ ap (λ (n : ℕ). number n) (c.len-entries.ensures.value ∙ ap (λ (list : List Entry). length list) c.entries.ensures.entries) in
    let last_id = c.id_reply.ensures ∙ ap (λ (id : Id). bulk_string (spelling id)) c.last_id.ensures in
    let added = c.number_reply-2.ensures ∙ ap (λ (n : ℕ). number n) c.added.ensures in
    let groups = c.number_reply-3.ensures ∙ ap (λ (n : ℕ). number n) c.group_count-groups.ensures.value in
    let first = c.in_ok-first.ensures ∙ ap (λ (entry : Option Entry). entry_or_null entry) (c.first.ensures ∙ ap (λ (list : List Entry). slice_get list 0) c.entries-2.ensures.entries) in
    let last = c.in_ok-last.ensures ∙ ap (λ (entry : Option Entry). entry_or_null entry) (c.last.ensures ∙ ap (λ (list : List Entry). slice_get list (length list - 1)) c.entries-3.ensures.entries) in
    let told = stream_told c.args.stream.now.shown c.short.result c.number_reply.result c.short-2.result c.id_reply.result c.short-3.result c.number_reply-2.result c.short-4.result c.number_reply-3.result c.short-5.result c.in_ok-first.first c.short-6.result c.in_ok-last.last c.short.ensures count c.short-2.ensures last_id c.short-3.ensures added c.short-4.ensures groups c.short-5.ensures first c.short-6.ensures last in
    IfOk-weaker c.array.result _ _ (λ reply is. is ∙ told) c.array.ensures
