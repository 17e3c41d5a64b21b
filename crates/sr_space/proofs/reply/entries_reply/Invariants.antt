use Rattle.std.proofs.Common.{◌≡◌, ◌++◌, length}
use Rattle.std.specs.List.{flat_map}
use Rattle.sr_resp.specs.{array_header}
use Rattle.sr_space.specs.EntryReply.{entry_answer}
use Rattle.sr_space.proofs.reply.entries_reply.Given as goal

abbrev pub invariant-loop-entry : goal.invariant-loop-entry
invariant-loop-entry l =
    l.draft ++ flat_map entry_answer l.entries ≡ array_header (length l.initial.entries) ++ flat_map entry_answer l.initial.entries

abbrev pub decreases-loop-entry : goal.decreases-loop-entry
decreases-loop-entry l = length l.entries
