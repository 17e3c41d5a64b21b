use Rattle.std.proofs.Common.{◌≡◌, ℕ, List, [], ◌++◌, length, map, reverse, refl, ap, ◌∙◌, append-nil, sym}
use Rattle.std.specs.List.{flat_map}
use Rattle.std.proofs.lemmas.List.{length-reverse}
use Rattle.sr_resp.specs.{array_header, array_of}
use Rattle.sr_resp.specs.Reply.{Part}
use Rattle.sr_entries.specs.declared.entry.Entry.{Entry}
use Rattle.sr_space.specs.EntryReply.{entry_answer}
use Rattle.sr_space.proofs.ReplyLemmas.{IsReply-entries, entries-written}
use Rattle.sr_space.proofs.reply.newest_first_reply.Goals as goal

written : (entries left : List Entry) (draft : List Part) → left ≡ [] → draft ++ flat_map entry_answer (reverse left) ≡ array_header (length entries) ++ flat_map entry_answer (reverse entries)
    → draft ≡ array_of (map entry_answer (reverse entries))
written entries left draft none e =
    let ended = sym (append-nil draft) ∙ ap (λ (l : List Entry). draft ++ flat_map entry_answer (reverse l)) (sym none) ∙ e in
    entries-written (reverse entries) (reverse entries) draft refl (ended ∙ ap (λ (n : ℕ). array_header n ++ flat_map entry_answer (reverse entries)) (sym (length-reverse entries)))

pub finish-requires : goal.finish-requires
finish-requires c = rw (written c.args.entries c.loop-entry.entries c.loop-entry.draft c.in_default.ensures.none c.loop-entry.invariant) (IsReply-entries (reverse c.args.entries))

pub returns : goal.returns
returns c = c.finish.ensures ∙ written c.args.entries c.loop-entry.entries c.loop-entry.draft c.in_default.ensures.none c.loop-entry.invariant
