use Rattle.std.proofs.Common.{List, ◌++◌, refl, ap, ◌∙◌, append-nil, sym}
use Rattle.std.specs.List.{flat_map}
use Rattle.sr_entries.specs.declared.entry.Entry.{Entry}
use Rattle.sr_space.specs.EntryReply.{entry_answer}
use Rattle.sr_space.proofs.ReplyLemmas.{IsReply-entries, entries-written}
use Rattle.sr_space.proofs.reply.entries_reply.Goals as goal

pub finish-requires : goal.finish-requires
finish-requires c =
    let none = sym (append-nil c.loop-entry.draft) ∙ ap (λ (l : List Entry). c.loop-entry.draft ++ flat_map entry_answer l) (sym c.in_default.ensures.none) in
    rw (entries-written c.args.entries c.args.entries c.loop-entry.draft refl (none ∙ c.loop-entry.invariant)) (IsReply-entries c.args.entries)

pub returns : goal.returns
returns c =
    let none = sym (append-nil c.loop-entry.draft) ∙ ap (λ (l : List Entry). c.loop-entry.draft ++ flat_map entry_answer l) (sym c.in_default.ensures.none) in
    c.finish.ensures ∙ entries-written c.args.entries c.args.entries c.loop-entry.draft refl (none ∙ c.loop-entry.invariant)
